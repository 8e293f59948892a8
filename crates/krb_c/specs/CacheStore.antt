-- Storing a credential for C.
use Rattle.std.specs.Prelude.{ℕ, List, length, Bool, not, ◌&&◌, nat_lt, Option, Some, None, Result, Ok, Err, if◌then◌else◌}
use Rattle.krb_wire.specs.Spelling.{Parts}
use Rattle.krb_wire.specs.NameOf.{name_of}
use Rattle.krb_text.specs.Etype.{is_key_size}
use Rattle.krb_ccache.specs.Credential.{CredParts, TypedData, plain_key}
use Rattle.krb_ccache.specs.Store.{CacheState}
use Rattle.krb_ccache.specs.Changes.{put_result}
use Rattle.krb_c.specs.declared.cache.changes.KrbfNumbers.{KrbfNumbers}
use Rattle.krb_c.specs.declared.cache.changes.KrbfNameTypes.{KrbfNameTypes}
use Rattle.krb_c.specs.Lists.{items_in}
use Rattle.krb_c.specs.Status.{AddsOr, Refuses}
use Rattle.krb_c.specs.Text.{ByName}

-- ---- what a credential is made of

-- the texts of its names, its key, its tickets, its addresses and authorization data, its numbers, and the types of its names
pub record NewCredentialParts : Type 0 where
  pub client : List ℕ
  pub server : List ℕ
  pub key : List ℕ
  pub ticket : List ℕ
  pub second_ticket : List ℕ
  pub addresses : List ℕ
  pub authdata : List ℕ
  pub numbers : KrbfNumbers
  pub types : KrbfNameTypes

-- the parts of the credential that the arguments of a call describe
abbrev pub new_credential_of : List ℕ → List ℕ → List ℕ → List ℕ → List ℕ → List ℕ → List ℕ → KrbfNumbers → KrbfNameTypes → NewCredentialParts
new_credential_of client server key ticket second_ticket addresses authdata numbers types =
    record { client = client; server = server; key = key; ticket = ticket; second_ticket = second_ticket; addresses = addresses; authdata = authdata; numbers = numbers; types = types }

-- an enctype has sixteen bits, and is_skey is 0 or 1
abbrev pub numbers_fit : KrbfNumbers → Bool
numbers_fit n = nat_lt n.enctype 65536 && nat_lt n.is_skey 2

-- the credential of a client and a server, with these addresses and this authorization data
abbrev pub credential_between : NewCredentialParts → Parts → Parts → List TypedData → List TypedData → CredParts
credential_between a client server addresses authdata = record {
  client = record client { name_type = a.types.client };
  server = record server { name_type = a.types.server };
  key = plain_key a.numbers.enctype a.key;
  times = record { authtime = a.numbers.authtime; starttime = a.numbers.starttime; endtime = a.numbers.endtime; renew_till = a.numbers.renew_till };
  is_skey = a.numbers.is_skey;
  flags = a.numbers.flags;
  addresses = addresses;
  authdata = authdata;
  ticket = a.ticket;
  second_ticket = a.second_ticket;
}

-- the credential, if both lists are whole items; else 32
abbrev pub with_lists : NewCredentialParts → Parts → Parts → Option (List TypedData) → Option (List TypedData) → Result CredParts ℕ
with_lists a client server (Some addresses) (Some authdata) = Ok (credential_between a client server addresses authdata)
with_lists a client server (Some addresses) None = Err 32
with_lists a client server None authdata = Err 32

-- the credential between two names; 32 if a number does not fit, 42 if the key has another length than those of its enctype
abbrev pub with_parts : NewCredentialParts → Parts → Parts → Result CredParts ℕ
with_parts a client server =
    if not (numbers_fit a.numbers) then Err 32 else if is_key_size a.numbers.enctype (length a.key)
    then with_lists a client server (items_in a.addresses) (items_in a.authdata) else Err 42

-- the types of names that are of the type 1, NT-PRINCIPAL
abbrev pub principals : KrbfNameTypes
principals = record { client = 1; server = 1 }

-- ---- what an addition returns

-- the credential is stored, or refused
abbrev pub StoresOr : Result CredParts ℕ → CacheState → ℕ → ℕ → ℕ → CacheState → Type 0
StoresOr (Ok c) old status place new_place new = AddsOr (put_result old c) old status place new_place new
StoresOr (Err why) old status place new_place new = Refuses why old status place new_place new

-- the credential of these parts is stored: the client's text is checked first, then the server's, and then the numbers, the key and the lists
abbrev pub Stores : NewCredentialParts → CacheState → ℕ → ℕ → ℕ → CacheState → Type 0
Stores a old status place new_place new =
    let Refused : ℕ → Type 0 = λ why. Refuses why old status place new_place new in
    ByName (λ client. ByName (λ server. StoresOr (with_parts a client server) old status place new_place new) Refused (name_of a.server None)) Refused (name_of a.client None)

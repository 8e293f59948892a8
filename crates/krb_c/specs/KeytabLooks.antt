-- What the calls that read a keytab return.
use Rattle.std.specs.Prelude.{◌≡◌, ℕ, Bool, true, false, Result, Option, Some, None, slice_get, length, List, IfOk}
use Rattle.krb_wire.specs.Spelling.{Parts}
use Rattle.krb_wire.specs.declared.name_fault.NameFault.{NameFault}
use Rattle.krb_walk.specs.declared.refusal.Code.{Code}
use Rattle.krb_text.specs.Etype.{is_key_size}
use Rattle.krb_keytab.specs.Entry.{EntryParts}
use Rattle.krb_keytab.specs.Store.{KeytabState, entry_at_place}
use Rattle.krb_keytab.specs.Find.{find_result}
use Rattle.krb_c.specs.declared.text.KrbfBytes.{KrbfBytes}
use Rattle.krb_c.specs.declared.keytab.looks.KrbfEntry.{KrbfEntry}
use Rattle.krb_c.specs.Text.{ShowsBytes, AreShown, ByName, FindsNamed}
use Rattle.krb_c.specs.Status.{AddsOr, Refuses}
use Rattle.krb_keytab.specs.Changes.{put_result}
use Rattle.krb_keytab.specs.Form.{read_back}

-- ---- entries as C sees them

-- what C sees is the entry at a place
pub record Shows (seen : KrbfEntry) (at : ℕ) (entry : EntryParts) : Type 0 where
  pub place : seen.place ≡ at
  pub kvno : seen.kvno ≡ entry.version
  pub timestamp : seen.timestamp ≡ entry.timestamp
  pub name_type : seen.name_type ≡ entry.principal.name_type
  pub enctype : seen.enctype ≡ entry.enctype
  pub components : seen.components ≡ length entry.principal.components
  pub realm : AreShown seen.realm entry.principal.realm
  pub key : AreShown seen.key entry.key

-- ---- what the calls that read a keytab return

-- a look-up of the name in a text
abbrev pub Finds : KeytabState → Result Parts NameFault → ℕ → ℕ → ℕ → KrbfEntry → KrbfEntry → Type 0
Finds k named kvno enctype = FindsNamed Shows (λ name. find_result k name kvno enctype) named

-- a component of the name of an entry is shown; 35 if there is no entry
abbrev pub ShowsPart : Option EntryParts → ℕ → ℕ → KrbfBytes → KrbfBytes → Type 0
ShowsPart (Some entry) number status bytes new_bytes = ShowsBytes (slice_get entry.principal.components number) status bytes new_bytes
ShowsPart None number status bytes new_bytes = (status ≡ 35) × (new_bytes ≡ bytes)

-- ---- what an addition to a keytab returns

-- the entry of a name and the other fields
abbrev pub entry_with : ℕ → ℕ → ℕ → List ℕ → Parts → EntryParts
entry_with timestamp kvno enctype key name = record { principal = name; timestamp = timestamp; version = kvno; enctype = enctype; key = key }

-- the entry that was added is read back at its place, as the format keeps it
abbrev pub ReadsBack : KeytabState → Result Parts NameFault → (Parts → EntryParts) → ℕ → KeytabState → Type 0
ReadsBack old named entry place new = IfOk named (λ name. entry_at_place new place ≡ Some (read_back old.format (entry name)))

-- an addition of an entry; 42 if its key has another length than those of its enctype
abbrev pub AddsSized : Bool → Result (ℕ × KeytabState) Code → KeytabState → ℕ → ℕ → ℕ → KeytabState → Type 0
AddsSized true given = AddsOr given
AddsSized false given = Refuses 42

-- an addition of an entry of the name in a text
abbrev pub AddsNamed : KeytabState → Result Parts NameFault → (Parts → EntryParts) → ℕ → ℕ → ℕ → KeytabState → Type 0
AddsNamed old named entry status place new_place new =
    ByName (λ name. AddsSized (is_key_size (entry name).enctype (length (entry name).key)) (put_result old (entry name)) old status place new_place new) (λ why. Refuses why old status place new_place new) named

-- What the samples are over: bytes as hexadecimal digits, a record and the worked cache of docs/FORMATS.md, and the
-- keytab or the cache in an image.
use Rattle.samples.proofs.Cited.{ℕ, ◌+◌, ◌-◌, ◌*◌, List, [], ◌∷◌, ◌++◌, codes, nat_lt, if◌then◌else◌, None, most_bytes, KeytabState, open_result, empty, name_of, V2, Little, result_unwrap_or, SessionState, ReplyContent, empty_cache, Parts, CacheState, cache_result, cache_image}
use Rattle.krb_ccache.specs.Credential.{CredParts}
use Rattle.krb_walk.specs.declared.event.Event.{Event}
use Rattle.krb_walk.specs.History.{history, replies, state_after}
use Rattle.krb_ccache.specs.Rewrite.{cache_rules}

-- ---- bytes

-- the value of a hexadecimal digit in lower case
abbrev nibble : ℕ → ℕ
nibble c = if nat_lt c 58 then c - 48 else c - 87

-- the bytes of hexadecimal digits, as `xxd -p` prints them
abbrev pub hex : List ℕ → List ℕ
hex [] = []
hex (a ∷ []) = []
hex (a ∷ b ∷ rest) = (nibble a * 16 + nibble b) ∷ hex rest

-- ---- what an image holds

-- the keytab in an image, an empty one if it is refused
abbrev pub keytab : List ℕ → KeytabState
keytab image = result_unwrap_or (open_result Little most_bytes image) (empty V2 0)

-- a name without components, in the realm of no bytes
abbrev pub nobody : Parts
nobody = record { name_type = 0; realm = []; components = [] }

-- the cache in an image, an empty one if it is refused
abbrev pub cache : List ℕ → CacheState
cache image = result_unwrap_or (cache_result most_bytes image) (empty_cache nobody None 0)

-- the name of a text with a realm, `nobody` if it has a fault
abbrev pub name : List ℕ → Parts
name text = result_unwrap_or (name_of text None) nobody

-- ---- changes

-- a new session over a store
abbrev pub session : {S : Type 0} → S → SessionState S
session store = record { store = store; cursors = [] }

-- the image that events leave of the cache in an image
abbrev pub cache_left : List ℕ → List (Event CredParts) → List ℕ
cache_left image done = cache_image (state_after cache_rules (session (cache image)) done).store

-- the replies to them
abbrev pub cache_replies : List ℕ → List (Event CredParts) → List ReplyContent
cache_replies image done = replies (history cache_rules (session (cache image)) done)

-- ---- a record of a keytab, and the worked cache

-- a record of host/a@R with its length: version 3, encryption type 17, at 1700000000 seconds
abbrev pub host : List ℕ
host = hex (codes "0000002f00020001520004686f7374000161000000016553f1000300110010000102030405060708090a0b0c0d0e0f00000003")

-- the front of the worked cache, 40 bytes: a header with an unknown tag and a time offset, and the default principal u@R
abbrev pub front : List ℕ
front = hex (codes "0504001200090002abcd0001000800000005fffffff6000000010000000100000001520000000175")

-- a ticket of u@R for krbtgt/R@R, 108 bytes, until 1700036000
abbrev pub ticket : List ℕ
ticket = hex (codes "00000001000000010000000152000000017500000002000000020000000152000000066b72627467740000000152001100000010000102030405060708090a0b0c0d0e0f6553f1000000000065547da0000000000040e00000000000000000000000000003746b7400000000")

-- a configuration entry, 136 bytes: pa_type of krbtgt/R@R is 2
abbrev pub pa_type : List ℕ
pa_type = hex (codes "00000001000000010000000152000000017500000001000000030000000c582d4341434845434f4e463a000000156b7262355f6363616368655f636f6e665f646174610000000770615f747970650000000a6b72627467742f5240520000000000000000000000000000000000000000000000000000000000000000000000000000013200000000")

-- the ticket with the removed mark: authtime ffffffff, endtime 0
abbrev pub removed : List ℕ
removed = hex (codes "00000001000000010000000152000000017500000002000000020000000152000000066b72627467740000000152001100000010000102030405060708090a0b0c0d0e0fffffffff0000000000000000000000000040e00000000000000000000000000003746b7400000000")

-- the worked cache, 392 bytes: credentials at 40, 148 and 284
abbrev pub worked : List ℕ
worked = front ++ (ticket ++ (pa_type ++ removed))

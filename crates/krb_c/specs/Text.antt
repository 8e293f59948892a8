-- What C is shown of keytabs and caches alike: bytes, records, and names as text.
use Rattle.std.specs.Prelude.{◌≡◌, ◌⊎◌, ℕ, List, ◌++◌, length, take, drop, Option, Some, None, Result, Ok, Err, [], ◌∷◌}
use denote.RawPtr.{Ptr, null_ptr, InBlock}
use Rattle.krb_wire.specs.declared.name_fault.NameFault.{NameFault}
use Rattle.krb_wire.specs.Spelling.{Parts}
use Rattle.krb_walk.specs.declared.refusal.Code.{Code}
use Rattle.krb_c.specs.Status.{name_status, code_status}
use Rattle.krb_c.specs.declared.text.KrbfBytes.{KrbfBytes}

-- ---- bytes, and records

-- a pointer to bytes: null if there are none, else in a block
abbrev pub IsTo : List ℕ → Ptr → Type 0
IsTo [] at = at ≡ null_ptr
IsTo (b ∷ bs) at = InBlock at

-- bytes are shown, by a pointer and their number
abbrev pub AreShown : KrbfBytes → List ℕ → Type 0
AreShown seen bytes = IsTo bytes seen.at × (seen.len ≡ length bytes)

-- a look-up at a place shows the record there; 35 if there is none
abbrev pub LooksAt : {Record Shown : Type 0} → (Shown → ℕ → Record → Type 0) → Option Record → ℕ → ℕ → Shown → Shown → Type 0
LooksAt Shows (Some x) place status seen new_seen = (status ≡ 0) × Shows new_seen place x
LooksAt Shows None place status seen new_seen = (status ≡ 35) × (new_seen ≡ seen)

-- bytes are shown; 39 if there are none of that name or number
abbrev pub ShowsBytes : Option (List ℕ) → ℕ → KrbfBytes → KrbfBytes → Type 0
ShowsBytes (Some bytes) status seen new_seen = (status ≡ 0) × AreShown new_seen bytes
ShowsBytes None status seen new_seen = (status ≡ 39) × (new_seen ≡ seen)

-- ---- names as text

-- why a text was not read as a name: its fault, or if it has none, out of memory
abbrev pub IsUnread : Result Parts NameFault → ℕ → Type 0
IsUnread (Ok name) status = status ≡ 1
IsUnread (Err fault) status = status ≡ name_status fault

-- a call does its work on the name of a text, or is out of memory; a text that is not a name is reported
abbrev pub ByName : (Parts → Type 0) → (ℕ → Type 0) → Result Parts NameFault → Type 0
ByName Does Refuses (Ok name) = Does name ⊎ Refuses 1
ByName Does Refuses (Err fault) = Refuses (name_status fault)

-- a look-up shows what it finds, or returns why it finds nothing
abbrev pub FindsOne : {Record Shown : Type 0} → (Shown → ℕ → Record → Type 0) → Result (ℕ × Record) Code → ℕ → Shown → Shown → Type 0
FindsOne Shows (Ok found) status seen new_seen = (status ≡ 0) × Shows new_seen found.0 found.1
FindsOne Shows (Err why) status seen new_seen = (status ≡ code_status why) × (new_seen ≡ seen)

-- a look-up of the name in a text
abbrev pub FindsNamed : {Record Shown : Type 0} → (Shown → ℕ → Record → Type 0) → (Parts → Result (ℕ × Record) Code) → Result Parts NameFault → ℕ → Shown → Shown → Type 0
FindsNamed Shows found named status seen new_seen =
    ByName (λ name. FindsOne Shows (found name) status seen new_seen) (λ why. (status ≡ why) × (new_seen ≡ seen)) named

-- a buffer with as much of a list at its front as fits
abbrev pub in_room : {X : Type 0} → List X → List X → List X
in_room room items = take (length room) items ++ drop (length items) room

-- a list was copied into a buffer, and its length reported; or it is out of memory, and nothing was written
abbrev pub Copies : {X : Type 0} → List X → ℕ → List X → List X → ℕ → ℕ → Type 0
Copies items status room new_room len new_len =
    ((status ≡ 0) × (new_room ≡ in_room room items) × (new_len ≡ length items))
    ⊎ ((status ≡ 1) × (new_room ≡ room) × (new_len ≡ len))

-- a text is reported, or this status if there is none
abbrev pub CopiesTextOr : ℕ → Option (List ℕ) → ℕ → List ℕ → List ℕ → ℕ → ℕ → Type 0
CopiesTextOr none (Some text) status room new_room len new_len = Copies text status room new_room len new_len
CopiesTextOr none None status room new_room len new_len = (status ≡ none) × (new_room ≡ room) × (new_len ≡ len)

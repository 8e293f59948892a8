-- Adding an entry to a keytab, and removing one. A keytab is a store for walks, `store_of`; `put_result` is the result of an addition, `cut_result` that of a removal (MIT keytab format).
use Rattle.std.specs.Prelude.{ℕ, ◌+◌, ◌-◌, List, [], ◌∷◌, ◌++◌, length, map, find, replicate, Option, Some, None, is_some, Result, Ok, Err, Bool, true, false, ◌||◌, nat_lt, nat_le, ◌==◌, if◌then◌else◌, option_map, ◌≡◌, ◌<◌, ◌≤◌}
use Rattle.krb_wire.specs.Spelling.{Parts}
use Rattle.krb_walk.specs.declared.refusal.Code.{Code}
use Rattle.krb_walk.specs.Events.{cut_store}
use Rattle.krb_walk.specs.Store.{end_of, fault_of, live_bytes}
use Rattle.krb_keytab.specs.Entry.{EntryParts}
use Rattle.krb_keytab.specs.Cells.{Cell, Live, Free, End, Bare, Mark, Damaged, size}
use Rattle.krb_keytab.specs.Store.{KeytabState, image_of, store_of, InMemory}
use Rattle.krb_keytab.specs.Find.{PlacedEntry, find_result}
use Rattle.krb_keytab.specs.Form.{fits, written_form, FormParts}
use Rattle.krb_keytab.specs.declared.cells.Hole.{Hole}
use Rattle.krb_walk.specs.declared.refusal.Code.TheVariants as code
use Rattle.krb_walk.specs.declared.refusal.Refusal.{Refusal}
use Rattle.krb_walk.specs.declared.refusal.Refusal.TheVariants.{Code as ByCode, NoMemory}

-- a cell with its place, the number of bytes before its length field
abbrev pub PlacedCell : Type 0
PlacedCell = ℕ × Cell

-- cells with their places, if the first is at the place `at`
abbrev pub placed_cells : ℕ → List Cell → List PlacedCell
placed_cells at [] = []
placed_cells at (c ∷ cs) = (at, c) ∷ placed_cells (at + (4 + size c)) cs

-- cells, where the one at the place p is changed
abbrev pub replaced_at : ℕ → (Cell → Cell) → ℕ → List Cell → List Cell
replaced_at at change p cells = map (λ x. if x.0 == p then change x.1 else x.1) (placed_cells at cells)

-- ---- removing

-- the hole that a removed record leaves: of the record's size, all zeros
abbrev pub zero_hole : Cell → Cell
zero_hole c = Free (replicate (size c) 0)

-- a keytab after the removal of the record at a place: the record is a hole of zeros, and all else is unchanged
abbrev pub with_hole : KeytabState → ℕ → KeytabState
with_hole k p = record k { contents = record { cells = replaced_at 2 zero_hole p k.contents.cells; end = k.contents.end } }

-- the result of removing the record at a place: refused if the keytab is damaged, and then if no record begins there
abbrev pub cut_result : KeytabState → ℕ → Result KeytabState Code
cut_result k p =
    if is_some (fault_of (store_of k)) then Err code.Damaged
    else (if is_some (live_bytes (store_of k) p) then Ok (with_hole k p) else Err code.NotLive)

-- a keytab after the removal of the records at these places; a place whose removal is refused changes nothing
abbrev pub without : KeytabState → List ℕ → KeytabState
without k [] = k
without k (p ∷ places) = without (cut_store k (cut_result k p)) places

-- the removal of the record that was found: its place, and the keytab without it
abbrev pub cut_result_of : KeytabState → Result PlacedEntry Code → Result (ℕ × KeytabState) Code
cut_result_of k (Ok x) = Ok (x.0, with_hole k x.0)
cut_result_of k (Err refused) = Err refused

-- the removal of the record that a look-up finds
abbrev pub remove_result : KeytabState → Parts → ℕ → ℕ → Result (ℕ × KeytabState) Code
remove_result k name kvno enctype = cut_result_of k (find_result k name kvno enctype)

-- a removal by name returned its result, with the place; if it was refused, the keytab is unchanged
abbrev pub AnswersRemove : KeytabState → Result (ℕ × KeytabState) Code → Result ℕ Code → KeytabState → Type 0
AnswersRemove k given (Ok place) new = given ≡ Ok (place, new)
AnswersRemove k given (Err refused) new = (given ≡ Err refused) × (new ≡ k)

-- ---- adding

-- a cell is a hole of at least n bytes
abbrev pub is_hole : ℕ → Cell → Bool
is_hole n (Live b) = false
is_hole n (Free b) = nat_le n (length b)

-- the first hole of at least n bytes, with its place
abbrev pub first_hole : ℕ → ℕ → List Cell → Option PlacedCell
first_hole at n cells = find (λ x. is_hole n x.1) (placed_cells at cells)

-- a cell as a hole, from its place and the cell
abbrev pub hole_of : PlacedCell → Hole
hole_of x = record { place = x.0; size = size x.1 }

-- the first hole of at least this many bytes, in the cells that start at a place
abbrev pub hole_from : ℕ → ℕ → List Cell → Option Hole
hole_from at n cells = option_map hole_of (first_hole at n cells)

-- bytes, and zeros after them up to n bytes
abbrev pub with_zeros : List ℕ → ℕ → List ℕ
with_zeros bytes n = bytes ++ replicate (n - length bytes) 0

-- the record that takes a hole: the bytes of an entry, and zeros after them up to the hole's size
abbrev pub record_in : List ℕ → Cell → Cell
record_in bytes c = Live (with_zeros bytes (size c))

-- a keytab where the hole at a place is a record of an entry's bytes, and all else is unchanged
abbrev pub with_record_in : KeytabState → List ℕ → ℕ → KeytabState
with_record_in k bytes p = record k { contents = record { cells = replaced_at 2 (record_in bytes) p k.contents.cells; end = k.contents.end } }

-- what is after the last cell once a record is appended: nothing is left after an end mark
abbrev pub end_after : End → End
end_after Bare = Bare
end_after (Mark rest) = Mark []
end_after (Damaged kind rest) = Damaged kind rest

-- a keytab with a record of these bytes appended to its cells
abbrev pub with_last : KeytabState → List ℕ → KeytabState
with_last k bytes = record k { contents = record { cells = k.contents.cells ++ Live bytes ∷ []; end = end_after k.contents.end } }

-- the result of appending a record: its place and the keytab, refused if the image would be longer than the limit
abbrev pub append_result : KeytabState → List ℕ → Result (ℕ × KeytabState) Code
append_result k bytes =
    if nat_lt k.limit (length (image_of (with_last k bytes))) then Err code.Full
    else Ok (end_of (store_of k), with_last k bytes)

-- the result of adding an entry's bytes: into the first hole that is large enough, if there is one, or else appended
abbrev pub put_result_into : KeytabState → List ℕ → Option PlacedCell → Result (ℕ × KeytabState) Code
put_result_into k bytes (Some hole) = Ok (hole.0, with_record_in k bytes hole.0)
put_result_into k bytes None = append_result k bytes

-- the result of adding an entry's bytes: into the first hole that is large enough, or appended
abbrev pub put_bytes_result : KeytabState → List ℕ → Result (ℕ × KeytabState) Code
put_bytes_result k bytes = put_result_into k bytes (first_hole 2 (length bytes) k.contents.cells)

-- the result of adding an entry: the record's place and the keytab, refused if the keytab is damaged, and then if a part of the entry is too long
abbrev pub put_result : KeytabState → EntryParts → Result (ℕ × KeytabState) Code
put_result k e =
    if is_some (fault_of (store_of k)) then Err code.Damaged
    else (if fits k.format e then put_bytes_result k (written_form k.format e) else Err code.TooLong)

-- the addition of an entry is refused
abbrev pub is_refused : Result (ℕ × KeytabState) Code → Bool
is_refused (Ok given) = false
is_refused (Err refused) = true

-- the addition of an entry takes no memory: it is refused, a hole takes the entry, or the image becomes no longer
abbrev pub takes_none : KeytabState → EntryParts → Bool
takes_none k e =
    is_refused (put_result k e)
    || is_some (first_hole 2 (length (written_form k.format e)) k.contents.cells)
    || nat_le (length (image_of (with_last k (written_form k.format e)))) (length (image_of k))

-- ---- an addition after the cells: for private contracts alone

-- it returned its result, or that it is out of memory, which is only if the image becomes longer
abbrev pub AnswersAppend : KeytabState → List ℕ → Result ℕ Refusal → KeytabState → Type 0
AnswersAppend k bytes (Ok place) new = append_result k bytes ≡ Ok (place, new)
AnswersAppend k bytes (Err (ByCode refused)) new = (append_result k bytes ≡ Err refused) × (new ≡ k)
AnswersAppend k bytes (Err NoMemory) new =
    (append_result k bytes ≡ Ok (end_of (store_of k), with_last k bytes)) × (length (image_of k) < length (image_of (with_last k bytes))) × (new ≡ k)

-- its room is kept if it is refused, and if the image becomes no longer
abbrev pub KeepsRoom : InMemory → List ℕ → Result ℕ Refusal → InMemory → Type 0
KeepsRoom k bytes (Ok place) new = length (image_of (with_last k.state bytes)) ≤ length (image_of k.state) → new.room ≡ k.room
KeepsRoom k bytes (Err (ByCode refused)) new = new.room ≡ k.room
KeepsRoom k bytes (Err NoMemory) new = Unit {0}

-- a written form is that of an entry that a keytab takes if it has room
pub record IsFormOf (k : KeytabState) (e : EntryParts) (w : FormParts) : Type 0 where
  pub whole : fault_of (store_of k) ≡ None
  pub fits : fits k.format e ≡ true
  pub format : w.format ≡ k.format
  pub bytes : w.bytes ≡ written_form k.format e

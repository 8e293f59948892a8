-- A keytab as a list of cells and an end, and the bytes that spell it (MIT keytab format).
use Rattle.std.specs.Prelude.{◌≡◌, ℕ, ◌<◌, ◌≤◌, ◌^◌, List, [], ◌∷◌, ◌++◌, length, take, drop, Option, Some, None, IsSome, is_some, nat_lt, if◌then◌else◌, ◌-◌, ◌==◌}
use Rattle.std.specs.List.{flat_map, AllByRecursion}
use Rattle.std.specs.Int.{w32}
use Rattle.krb_wire.specs.declared.format.Order.{Order}
use Rattle.krb_wire.specs.declared.format.KtFormat.{KtFormat}
use Rattle.krb_wire.specs.Spelling.{order_of, digits, version_byte}
use Rattle.krb_wire.specs.Reading.{number_at}
use Rattle.krb_walk.specs.declared.fault.FaultKind.{FaultKind}
use Rattle.krb_walk.specs.declared.fault.FaultKind.TheVariants.{CutLength, Overrun, BadEntry}
use Rattle.krb_cells.specs.Contents.{NextCell, More, NoMore, Format, Contents as ContentsOf, contents as contents_of}
use Rattle.krb_keytab.specs.declared.length.Length.{Length}
use Rattle.krb_keytab.specs.declared.length.Length.TheVariants as says
use Rattle.krb_keytab.specs.Entry.{entry_at}

-- ---- the length before each cell

-- what a length field says, signed: 0 is the end mark, a number above 0 the size of a record, one below 0 that of a hole
abbrev pub length_of : ℕ → Length
length_of n = if n == 0 then says.End else (if nat_lt n (2 ^ 31) then says.Live n else says.Free (2 ^ 32 - n))

-- the length field that says the end mark, a record's size or a hole's
abbrev pub field_of : Length → ℕ
field_of says.End = 0
field_of (says.Live n) = n
field_of (says.Free n) = 2 ^ 32 - n

-- how many bytes the cell has after it
abbrev pub size_of : Length → ℕ
size_of says.End = 0
size_of (says.Live n) = n
size_of (says.Free n) = n

-- a field says this length and no other: a cell is not empty, and its size is in 31 bits, or 2 ^ 31 for a hole
abbrev pub HasField : Length → Type 0
HasField says.End = Unit {0}
HasField (says.Live n) = (0 < n) × (n < 2 ^ 31)
HasField (says.Free n) = (0 < n) × (n ≤ 2 ^ 31)

-- ---- cells

-- a cell of a keytab: a record (`Live`), whose bytes begin with an entry, or a hole (`Free`)
pub data Cell : Type 0 where
  Live : List ℕ → Cell
  Free : List ℕ → Cell

-- what is after the last cell of a keytab: nothing, an end mark (a length 0) and bytes after it, or bytes that are damaged
pub data End : Type 0 where
  Bare : End
  Mark : List ℕ → End
  Damaged : FaultKind → List ℕ → End

-- what a keytab holds after its two version bytes: its cells, and what is after them
abbrev pub Contents : Type 0
Contents = ContentsOf Cell End

-- ---- spelling

-- the bytes of a cell after its length
abbrev pub bytes_of : Cell → List ℕ
bytes_of (Live b) = b
bytes_of (Free b) = b

-- how many bytes a cell has after its length
abbrev pub size : Cell → ℕ
size c = length (bytes_of c)

-- the length of a cell, as a record's or a hole's
abbrev pub length_of_cell : Cell → Length
length_of_cell (Live b) = says.Live (length b)
length_of_cell (Free b) = says.Free (length b)

-- the length field of a cell
abbrev pub length_field : Cell → ℕ
length_field c = field_of (length_of_cell c)

-- the bytes that spell a cell: its length field and its bytes
abbrev pub cell : Order → Cell → List ℕ
cell o c = digits o w32 (length_field c) ++ bytes_of c

-- the bytes after the last cell
abbrev pub end_bytes : Order → End → List ℕ
end_bytes o Bare = []
end_bytes o (Mark rest) = digits o w32 0 ++ rest
end_bytes o (Damaged kind rest) = rest

-- the bytes of a keytab after its two version bytes
abbrev pub spelling : Order → Contents → List ℕ
spelling o k = flat_map (cell o) k.cells ++ end_bytes o k.end

-- the kind of the fault after the last cell, if the bytes there are damaged
abbrev pub kind_of : End → Option FaultKind
kind_of Bare = None
kind_of (Mark rest) = None
kind_of (Damaged kind rest) = Some kind

-- the bytes of a keytab: 05, its version, its cells, and what is after them
abbrev pub image : KtFormat → Contents → List ℕ
image f k = 5 ∷ version_byte f ∷ spelling (order_of f) k

-- ---- reading

-- what ends the cells where fewer than four bytes are left for a length
abbrev pub short_end : List ℕ → End
short_end [] = Bare
short_end (b ∷ bs) = Damaged CutLength (b ∷ bs)

-- the cell with a length and the bytes after it; never used for the length `End`
abbrev pub cell_in : Length → List ℕ → Cell
cell_in says.End b = Live b
cell_in (says.Live n) b = Live b
cell_in (says.Free n) b = Free b

-- what bytes are by the length they begin with: an end mark; a record, if that many bytes follow and begin with an entry; a hole, if that many follow; or else damaged
abbrev pub next_of_length : KtFormat → List ℕ → List ℕ → Length → NextCell Cell End
next_of_length f bytes rest says.End = NoMore (Mark rest)
next_of_length f bytes rest (says.Live n) =
    if nat_lt (length rest) n then NoMore (Damaged Overrun bytes)
    else (if is_some (entry_at f (take n rest)) then More (Live (take n rest)) (drop n rest) else NoMore (Damaged BadEntry bytes))
next_of_length f bytes rest (says.Free n) =
    if nat_lt (length rest) n then NoMore (Damaged Overrun bytes)
    else More (Free (take n rest)) (drop n rest)

-- what bytes begin with: a cell by the length that was read, or the end if there is none
abbrev pub next_by : KtFormat → List ℕ → Option (ℕ × List ℕ) → NextCell Cell End
next_by f bytes None = NoMore (short_end bytes)
next_by f bytes (Some n) = next_of_length f bytes n.1 (length_of n.0)

-- the cell that bytes begin with, or what ends the cells there
unfoldable pub next : KtFormat → List ℕ → NextCell Cell End
next f bytes = next_by f bytes (number_at (order_of f) w32 bytes)

-- the format of a keytab's cells: how they are read and spelled
abbrev pub keytab_format : KtFormat → Format Cell End
keytab_format f = record { next = next f; cell = cell (order_of f); end_bytes = end_bytes (order_of f); none = Bare }

-- what bytes after the two version bytes hold: cells one after the other, and what is after the last
unfoldable pub contents : KtFormat → List ℕ → Contents
contents f bytes = contents_of (keytab_format f) bytes

-- ---- what is a keytab

-- a record's bytes begin with an entry; no cell is empty, and each size fits its field
abbrev pub IsCell : KtFormat → Cell → Type 0
IsCell f (Live b) = (0 < length b) × (length b < 2 ^ 31) × IsSome (entry_at f b)
IsCell f (Free b) = (0 < length b) × (length b ≤ 2 ^ 31)

-- what ends the cells is no further cell
abbrev pub IsEnd : KtFormat → End → Type 0
IsEnd f Bare = Unit {0}
IsEnd f (Mark rest) = Unit {0}
IsEnd f (Damaged kind rest) = next f rest ≡ NoMore (Damaged kind rest)

-- the cells and the end are sound
pub record IsSound (f : KtFormat) (k : Contents) : Type 0 where
  pub cells : AllByRecursion (IsCell f) k.cells
  pub end : IsEnd f k.end

-- sound contents, and the bytes that spell them
pub record IsSpelled (f : KtFormat) (bytes : List ℕ) (k : Contents) : Type 0 where
  pub parts : bytes ≡ spelling (order_of f) k
  pub sound : IsSound f k

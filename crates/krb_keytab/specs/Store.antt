-- What a keytab holds, and its store (MIT keytab format).
use Rattle.std.specs.Prelude.{◌≡◌, ℕ, ◌+◌, ◌≤◌, List, [], length, drop, map, slice_index, Option, Some, None, Result, Ok, Err, nat_lt, ◌==◌, if◌then◌else◌}
use Rattle.std.specs.List.{filter_map}
use Rattle.krb_wire.specs.declared.format.Order.{Order}
use Rattle.krb_wire.specs.declared.format.KtFormat.{KtFormat}
use Rattle.krb_wire.specs.declared.format.KtFormat.TheVariants.{V1, V2}
use Rattle.krb_wire.specs.Reading.{◌>>=◌}
use Rattle.krb_wire.specs.Spelling.{version_byte}
use Rattle.krb_walk.specs.Store.{Cell as StoreCell, Store, end_from, records, live_bytes}
use Rattle.krb_keytab.specs.declared.open.KtOpenFault.{KtOpenFault}
use Rattle.krb_keytab.specs.declared.open.KtOpenFault.TheVariants.{TooShort, BadVersion, TooLarge}
use Rattle.krb_keytab.specs.Entry.{EntryParts, entry_at}
use Rattle.krb_keytab.specs.Cells.{Cell, Live, Free, Bare, Contents, contents, size, image, kind_of}

-- a keytab: its format, the greatest length that its image may have, and its cells with what is after them
pub record KeytabState : Type 0 where
  pub format : KtFormat
  pub limit : ℕ
  pub contents : Contents

-- a keytab in memory: what it holds, and how many bytes there is room for before more memory is taken
pub record InMemory : Type 0 where
  pub state : KeytabState
  pub room : ℕ

-- the bytes of a keytab
abbrev pub image_of : KeytabState → List ℕ
image_of k = image k.format k.contents

-- the format that the first two bytes of an image give, 05 and 01 or 02; version 1 is read in the byte order o
abbrev pub format_of : Order → List ℕ → Option KtFormat
format_of o bytes =
    if slice_index bytes 0 == 5
    then (if slice_index bytes 1 == 1 then Some (V1 o) else (if slice_index bytes 1 == 2 then Some V2 else None))
    else None

-- the keytab in an image of a format, or that the version is unknown or the image longer than the limit
abbrev pub open_result_in : ℕ → List ℕ → Option KtFormat → Result KeytabState KtOpenFault
open_result_in limit bytes None = Err BadVersion
open_result_in limit bytes (Some f) = if nat_lt limit (length bytes) then Err TooLarge else Ok (record { format = f; limit = limit; contents = contents f (drop 2 bytes) })

-- the keytab in an image, or why there is none: fewer than two bytes, an unknown version, or an image longer than the limit
abbrev pub open_result : Order → ℕ → List ℕ → Result KeytabState KtOpenFault
open_result o limit bytes = if nat_lt (length bytes) 2 then Err TooShort else open_result_in limit bytes (format_of o bytes)

-- the bytes of a cell that is a record; a hole gives none
abbrev pub live_of : Cell → Option (List ℕ)
live_of (Live b) = Some b
live_of (Free b) = None

-- a cell as part of a store: its width includes the four bytes of its length
abbrev pub store_cell : Cell → StoreCell
store_cell c = record { width = 4 + size c; live = live_of c }

-- the cells of bytes, as a store sees them
abbrev pub store_cells : KtFormat → List ℕ → List StoreCell
store_cells f bytes = map store_cell (contents f bytes).cells

-- the place after cells that start at a place
abbrev pub end_place : ℕ → List Cell → ℕ
end_place at cells = end_from at (map store_cell cells)

-- the store of an image: its cells are after the two version bytes
abbrev pub store_of_image : KtFormat → List ℕ → Store
store_of_image f image = record { first = 2; cells = store_cells f (drop 2 image); fault = kind_of (contents f (drop 2 image)).end }

-- a keytab as a store: its cells from place 2 on, and its fault
abbrev pub store_of : KeytabState → Store
store_of k = record { first = 2; cells = map store_cell k.contents.cells; fault = kind_of k.contents.end }

-- the entries of a keytab, in file order
abbrev pub entries : KeytabState → List EntryParts
entries k = filter_map (λ r. entry_at k.format r.bytes) (records (store_of k))

-- the entry at a place, if a record starts there
abbrev pub entry_at_place : KeytabState → ℕ → Option EntryParts
entry_at_place k p = live_bytes (store_of k) p >>= entry_at k.format

-- bytes that are kept as the image of a keytab
pub record IsImage (f : KtFormat) (limit : ℕ) (bytes : List ℕ) : Type 0 where
  pub long : 2 ≤ length bytes
  pub first : slice_index bytes 0 ≡ 5
  pub second : slice_index bytes 1 ≡ version_byte f
  pub within : length bytes ≤ limit
  pub limit_fits : limit ≤ 1073741824

-- the format is version 1 in this byte order, or version 2
abbrev pub IsInOrder : Order → KtFormat → Type 0
IsInOrder o (V1 p) = p ≡ o
IsInOrder o V2 = Unit {0}

-- the image is opened as this keytab again, in its byte order and with any limit that is no smaller
abbrev pub Reopens : KeytabState → List ℕ → Type 0
Reopens k bytes = (o : Order) (limit : ℕ) → IsInOrder o k.format → k.limit ≤ limit → open_result o limit bytes ≡ Ok (record k { limit = limit })

-- a keytab of a format without cells, and with nothing after them
abbrev pub empty : KtFormat → ℕ → KeytabState
empty f limit = record { format = f; limit = limit; contents = record { cells = []; end = Bare } }

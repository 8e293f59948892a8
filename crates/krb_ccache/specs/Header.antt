-- The header of a version 4 cache: tagged fields (MIT ccache format, header).
use Rattle.std.specs.Prelude.{◌≡◌, ℕ, ◌<◌, ◌^◌, ◌==◌, ◌&&◌, List, [], ◌∷◌, ◌++◌, length, take, drop, Option, Some, None, option_map, if◌then◌else◌}
use Rattle.std.specs.Borrow.{Bor}
use Rattle.std.specs.List.{flat_map, filter_map, AllByRecursion}
use Rattle.std.specs.Int.{w16, w32, from_be_bytes, cast_signed}
use Rattle.krb_wire.specs.declared.format.Order.TheVariants.{Big}
use Rattle.krb_wire.specs.Spelling.{digits, data16, IsShort}
use Rattle.krb_wire.specs.Reading.{◌>>=◌, number_at, data16_at}
use Rattle.krb_cells.specs.Contents.{Format, contents, unframed}
use Rattle.krb_ccache.specs.declared.version.Version.{Version}
use Rattle.krb_ccache.specs.declared.version.Version.TheVariants.{V3, V4}
use Rattle.krb_ccache.specs.declared.offset.Offset.{Offset}

-- a field of a header: its tag and its value
pub record Field : Type 0 where
  pub tag : ℕ
  pub value : List ℕ

-- the bytes of a header's field: its tag, its length and its value
abbrev pub field : Field → List ℕ
field x = digits Big w16 x.tag ++ data16 Big x.value

-- its tag and its length fit their fields
pub record FitsField (x : Field) : Type 0 where
  pub tag : x.tag < 2 ^ 16
  pub value : IsShort x.value

-- the bytes of a header, of its length and its fields; version 3 has none
abbrev pub header : Version → List Field → List ℕ
header V3 xs = []
header V4 xs = data16 Big (flat_map field xs)

-- the fields have a spelling as a header: version 3 has no fields
abbrev pub FitsHeader : Version → List Field → Type 0
FitsHeader V3 xs = xs ≡ []
FitsHeader V4 xs = AllByRecursion FitsField xs × IsShort (flat_map field xs)

-- ---- reading

-- the field of a header that bytes begin with, and the bytes after it
unfoldable pub field_at : List ℕ → Option (Field × List ℕ)
field_at bytes = do
  tag ← number_at Big w16 bytes
  value ← data16_at Big tag.1
  Some (record { tag = tag.0; value = value.0 }, value.1)

-- the format of a header's fields, one after the other
abbrev pub fields_format : Format Field (List ℕ)
fields_format = unframed field_at field

-- the fields of a header, if no bytes are left after them
abbrev pub only_cells : {C : Type 0} → List C → List ℕ → Option (List C)
only_cells xs [] = Some xs
only_cells xs (b ∷ bs) = None

-- the fields that fill the bytes of a header
abbrev pub fields_in : List ℕ → Option (List Field)
fields_in bytes = only_cells (contents fields_format bytes).cells (contents fields_format bytes).end

-- the header that bytes begin with, and the bytes after it
unfoldable pub header_at : Version → List ℕ → Option (List Field × List ℕ)
header_at V3 bytes = Some ([], bytes)
header_at V4 bytes = do
  x ← data16_at Big bytes
  fields ← fields_in x.0
  Some (fields, x.1)

-- ---- the time offset

-- the time offset in a field of eight bytes: seconds and microseconds, both signed
abbrev pub offset_from : List ℕ → Offset
offset_from bytes = record {
  seconds = cast_signed w32 (from_be_bytes w32 (take 4 bytes));
  micros = cast_signed w32 (from_be_bytes w32 (drop 4 bytes));
}

-- the time offset of a header's field, if its tag is 1 and its length 8
abbrev pub offset_of : Field → Option Offset
offset_of x = if x.tag == 1 && length x.value == 8 then Some (offset_from x.value) else None

-- the first of a list
abbrev pub first_of : {T : Type 0} → List T → Option T
first_of [] = None
first_of (x ∷ xs) = Some x

-- the time offset of a header: that of its first field of tag 1 and length 8
abbrev pub offset_in : List Field → Option Offset
offset_in xs = first_of (filter_map offset_of xs)

-- ---- for private contracts

-- a borrowed field, without the address of its value
abbrev pub field_of : ℕ × Bor (List ℕ) → Field
field_of x = record { tag = x.0; value = x.1.now }

-- the bytes after the header that the bytes begin with
abbrev pub header_end : Version → List ℕ → Option (List ℕ)
header_end v bytes = option_map (λ x. x.1) (header_at v bytes)

-- the first offset among the fields of these bytes, whether or not the fields fill them
abbrev pub fields_offset : Option (List ℕ × List ℕ) → Option Offset
fields_offset None = None
fields_offset (Some x) = offset_in (contents fields_format x.0).cells

-- the time offset in the header that the bytes begin with
abbrev pub header_offset : Version → List ℕ → Option Offset
header_offset V3 bytes = None
header_offset V4 bytes = fields_offset (data16_at Big bytes)

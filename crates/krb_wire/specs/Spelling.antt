-- What names are, and their one spelling in a keytab and in a cache (MIT keytab, ccache).
use Rattle.std.specs.Prelude.{◌≡◌, ℕ, ◌+◌, ◌<◌, ◌^◌, ◌≤◌, List, [], ◌++◌, length, drop, Bool, true, false, ◌&&◌, nat_lt, if◌then◌else◌, IsTrue}
use Rattle.std.specs.List.{flat_map, list_all, AllByRecursion}
use Rattle.std.specs.Int.{Width, w16, w32, to_be_bytes, to_le_bytes, from_be_bytes, from_le_bytes}
use Rattle.krb_wire.specs.declared.format.Order.{Order}
use Rattle.krb_wire.specs.declared.format.Order.TheVariants.{Big, Little}
use Rattle.krb_wire.specs.declared.format.Lengths.{Lengths}
use Rattle.krb_wire.specs.declared.format.Lengths.TheVariants.{Bits16, Bits32}
use Rattle.krb_wire.specs.declared.format.KtFormat.{KtFormat}
use Rattle.krb_wire.specs.declared.format.KtFormat.TheVariants.{V1, V2}

-- a principal name: its name type, its realm and its components
pub record Parts : Type 0 where
  pub name_type : ℕ
  pub realm : List ℕ
  pub components : List (List ℕ)

-- the bytes of a number of a width, in a byte order
abbrev pub digits : Order → Width → ℕ → List ℕ
digits Big w n = to_be_bytes w n
digits Little w n = to_le_bytes w n

-- the number that bytes encode in a byte order
abbrev pub number : Order → Width → List ℕ → ℕ
number Big w bytes = from_be_bytes w bytes
number Little w bytes = from_le_bytes w bytes

-- bytes after a length field of this width that counts them
abbrev pub counted : Order → Width → List ℕ → List ℕ
counted o w bytes = digits o w (length bytes) ++ bytes

-- bytes after a length of 16 bits
abbrev pub data16 : Order → List ℕ → List ℕ
data16 o bytes = counted o w16 bytes

-- bytes after a length of 32 bits
abbrev pub data32 : Order → List ℕ → List ℕ
data32 o bytes = counted o w32 bytes

-- the second byte of a keytab: its format version, 1 or 2
abbrev pub version_byte : KtFormat → ℕ
version_byte (V1 o) = 1
version_byte V2 = 2

-- the byte order of a keytab's numbers: version 2 is big-endian, version 1 has the writer's
abbrev pub order_of : KtFormat → Order
order_of (V1 o) = o
order_of V2 = Big

-- how many realms the count of a name's components includes: one in version 1
abbrev pub counted_realms : KtFormat → ℕ
counted_realms (V1 o) = 1
counted_realms V2 = 0

-- names in a keytab have a name type: in version 2
abbrev pub has_name_type : KtFormat → Bool
has_name_type (V1 o) = false
has_name_type V2 = true

-- the count of components that is written for a name of n components
abbrev pub count_field : KtFormat → ℕ → ℕ
count_field f n = n + counted_realms f

-- the bytes of a name type: none in version 1
abbrev pub name_type_field : KtFormat → ℕ → List ℕ
name_type_field f t = if has_name_type f then digits Big w32 t else []

-- a name as a keytab spells it
abbrev pub kt_principal : KtFormat → Parts → List ℕ
kt_principal f p =
    digits (order_of f) w16 (count_field f (length p.components))
    ++ (data16 (order_of f) p.realm
    ++ (flat_map (data16 (order_of f)) p.components ++ name_type_field f p.name_type))

-- a name type that the format can encode: in version 1 it is 0
abbrev pub HasNameType : KtFormat → ℕ → Type 0
HasNameType (V1 o) t = t ≡ 0
HasNameType V2 t = t < 2 ^ 32

-- short enough for a length of 16 bits
abbrev pub IsShort : List ℕ → Type 0
IsShort bytes = length bytes < 2 ^ 16

-- the length of bytes fits a field of 16 bits
abbrev pub is_short : List ℕ → Bool
is_short bytes = nat_lt (length bytes) (2 ^ 16)

-- each length and count of a name fits its field of 16 bits, so the name can be written to a keytab (version 1 leaves the name type out)
abbrev pub name_fits : KtFormat → Parts → Bool
name_fits f p = nat_lt (count_field f (length p.components)) (2 ^ 16) && (is_short p.realm && list_all is_short p.components)

-- a name that a keytab can encode
pub record FitsKt (f : KtFormat) (p : Parts) : Type 0 where
  pub lengths : IsTrue (name_fits f p)
  pub name_type : HasNameType f p.name_type

-- a name as a credential cache spells it
abbrev pub cc_principal : Parts → List ℕ
cc_principal p =
    digits Big w32 p.name_type
    ++ (digits Big w32 (length p.components) ++ (data32 Big p.realm ++ flat_map (data32 Big) p.components))

-- short enough for a length of 32 bits
abbrev pub IsLong : List ℕ → Type 0
IsLong bytes = length bytes < 2 ^ 32

-- whether the length of the bytes fits 32 bits
abbrev pub is_long : List ℕ → Bool
is_long bytes = nat_lt (length bytes) (2 ^ 32)

-- whether each length and count of a name fits its 32 bits: then it can be written
abbrev pub cc_name_fits : Parts → Bool
cc_name_fits p = nat_lt (length p.components) (2 ^ 32) && (is_long p.realm && list_all is_long p.components)

-- a name that a credential cache can encode
pub record FitsCc (p : Parts) : Type 0 where
  pub name_type : p.name_type < 2 ^ 32
  pub count : length p.components < 2 ^ 32
  pub realm : IsLong p.realm
  pub components : AllByRecursion IsLong p.components

-- a length of this width, and that many bytes, by `Lengths`
abbrev pub data_text : Lengths → List ℕ → List ℕ
data_text (Bits16 o) = data16 o
data_text (Bits32 o) = data32 o

-- short enough for a length of this width
abbrev pub FitsLength : Lengths → List ℕ → Type 0
FitsLength (Bits16 o) = IsShort
FitsLength (Bits32 o) = IsLong

-- a text is in the bytes, from a place to the next
pub record HasText (bytes : List ℕ) (at next : ℕ) (text : List ℕ) : Type 0 where
  pub parts : drop at bytes ≡ text ++ drop next bytes
  pub end : next ≡ at + length text
  pub within : next ≤ length bytes

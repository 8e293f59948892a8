-- DER, as far as a ticket needs it: elements with a tag of one byte, GeneralStrings and INTEGERs (X.690).
use Rattle.std.specs.Prelude.{ℕ, zero, suc, ◌+◌, ◌*◌, ◌-◌, ◌==◌, ℤ, pos, negsuc, List, [], ◌∷◌, length, Bool, true, false, not, ◌&&◌, ◌||◌, nat_lt, nat_le, if◌then◌else◌, Option, None, Some, unwrap_or, slice_index}
use Rattle.std.specs.List.{fold}
use Rattle.krb_wire.specs.Reading.{◌>>=◌, byte_at, bytes_at}

-- a byte as a digit in base 256, or the complement of the byte
abbrev pub digit : Bool → ℕ → ℕ
digit is_complement byte = if is_complement then 255 - byte else byte

-- the number whose digits in base 256 are the bytes, or their complements, the highest first
abbrev pub base_256 : Bool → List ℕ → ℕ
base_256 is_complement bytes = fold (λ n byte. n * 256 + digit is_complement byte) 0 bytes

-- ---- elements

-- an element's length of 128 or more, by the bytes that write it, without a zero before them (10.1)
unfoldable pub long_length : List ℕ → Option ℕ
long_length bytes =
    if (slice_index bytes 0 == 0) || (nat_lt 8 (length bytes) || nat_lt (base_256 false bytes) 128) then None
    else Some (base_256 false bytes)

-- the length of an element that bytes begin with, in its shortest form (8.1.3)
unfoldable pub length_at : List ℕ → Option (ℕ × List ℕ)
length_at bytes = do
  first ← byte_at bytes
  if nat_lt first.0 128 then Some first else (do
    digits ← bytes_at (first.0 - 128) first.1
    len ← long_length digits.0
    Some (len, digits.1))

-- the content of an element with a tag that bytes begin with, and the bytes after the element (8.1)
unfoldable pub element_at : ℕ → List ℕ → Option (List ℕ × List ℕ)
element_at tag bytes = do
  first ← byte_at bytes
  len ← if first.0 == tag then length_at first.1 else None
  bytes_at len.0 len.1

-- what was read, if no bytes are left after it
abbrev pub whole : {X : Type 0} → Option (X × List ℕ) → Option X
whole None = None
whole (Some (x, [])) = Some x
whole (Some (x, b ∷ rest)) = None

-- the content of an element with a tag, if the bytes are this element and no more
unfoldable pub element_in : ℕ → List ℕ → Option (List ℕ)
element_in tag bytes = whole (element_at tag bytes)

-- ---- GeneralStrings

-- the GeneralStrings that bytes are, at most n of them
abbrev pub strings_within : ℕ → List ℕ → Option (List (List ℕ))
strings_within zero bytes = if length bytes == 0 then Some [] else None
strings_within (suc n) bytes =
    if length bytes == 0 then Some [] else (do
      first ← element_at 0x1b bytes
      others ← strings_within n first.1
      Some (first.0 ∷ others))

-- those strings, or none if the bytes are not at most n
abbrev pub strings_left : ℕ → List ℕ → List (List ℕ)
strings_left n bytes = unwrap_or (strings_within n bytes) []

-- the GeneralStrings that bytes are, one after the other
unfoldable pub strings_in : List ℕ → Option (List (List ℕ))
strings_in bytes = strings_within (length bytes) bytes

-- ---- INTEGERs

-- the content of an INTEGER is as short as can be: its first nine bits are not all equal (8.3.2)
abbrev pub is_shortest : List ℕ → Bool
is_shortest [] = false
is_shortest (a ∷ []) = true
is_shortest (a ∷ b ∷ rest) = not (((a == 0) && nat_lt b 128) || ((a == 255) && nat_le 128 b))

-- a number in two's complement, as an INTEGER has it (8.3.3)
abbrev pub twos_complement : List ℕ → ℤ
twos_complement bytes = if nat_le 128 (slice_index bytes 0) then negsuc (base_256 true bytes) else pos (base_256 false bytes)

-- the number that the content of an INTEGER is, if it has at most 64 bits
unfoldable pub integer_in : List ℕ → Option ℤ
integer_in content = if is_shortest content && nat_le (length content) 8 then Some (twos_complement content) else None

-- the number in the element with a tag that bytes begin with, which holds one INTEGER, and the bytes after the element
unfoldable pub integer_at : ℕ → List ℕ → Option (ℤ × List ℕ)
integer_at tag bytes = do
  element ← element_at tag bytes
  content ← element_in 2 element.0
  n ← integer_in content
  Some (n, element.1)

-- a number that the code keeps as whether it is below 0, and how far above 0 or below -1
abbrev pub signed : Bool × ℕ → ℤ
signed (true, n) = negsuc n
signed (false, n) = pos n

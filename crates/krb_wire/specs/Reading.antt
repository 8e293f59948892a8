-- Reading from left to right: a part and the bytes after it, if the bytes begin with one (MIT keytab, ccache).
use Rattle.std.specs.Prelude.{◌≡◌, ℕ, zero, suc, ◌≤◌, ◌-◌, List, [], ◌∷◌, length, take, drop, Option, Some, None, nat_lt, if◌then◌else◌, option_map, unwrap_or, map, Vec}
use Rattle.std.specs.Int.{Width, w16, w32, byte_len}
use Rattle.std.specs.Vec.{vec_items}
use Rattle.krb_wire.specs.declared.format.Order.{Order}
use Rattle.krb_wire.specs.declared.principal.Principal.{Principal}
use Rattle.krb_wire.specs.declared.format.Order.TheVariants.{Big}
use Rattle.krb_wire.specs.declared.format.Lengths.{Lengths}
use Rattle.krb_wire.specs.declared.format.Lengths.TheVariants.{Bits16, Bits32}
use Rattle.krb_wire.specs.declared.format.KtFormat.{KtFormat}
use Rattle.krb_wire.specs.Spelling.{Parts, number, order_of, counted_realms, has_name_type}

infixl 10 ◌>>=◌
-- the next step of a reading, if the step before it found something
abbrev pub ◌>>=◌ : {A B : Type 0} → Option A → (A → Option B) → Option B
(Some x) >>= f = f x
None >>= f = None

-- the result of a call, mapped by `view`, is what the definition reads
abbrev pub Gives : {X Y : Type 0} → (X → Y) → Option X → Option Y → Type 0
Gives view (Some x) read = read ≡ Some (view x)
Gives view None read = read ≡ None

-- the number that bytes begin with, and the bytes after it
abbrev pub number_at : Order → Width → List ℕ → Option (ℕ × List ℕ)
number_at o w bytes = if nat_lt (length bytes) (byte_len w) then None else Some (number o w (take (byte_len w) bytes), drop (byte_len w) bytes)

-- the first byte, and the bytes after it
abbrev pub byte_at : List ℕ → Option (ℕ × List ℕ)
byte_at [] = None
byte_at (b ∷ rest) = Some (b, rest)

-- the first n bytes, and the bytes after them
abbrev pub bytes_at : ℕ → List ℕ → Option (List ℕ × List ℕ)
bytes_at n bytes = if nat_lt (length bytes) n then None else Some (take n bytes, drop n bytes)

-- the data after a length field that bytes begin with, and the bytes after the data
abbrev pub counted_at : Order → Width → List ℕ → Option (List ℕ × List ℕ)
counted_at o w bytes = do
  n ← number_at o w bytes
  bytes_at n.0 n.1

-- the data that bytes begin with, after a length of 16 bits
unfoldable pub data16_at : Order → List ℕ → Option (List ℕ × List ℕ)
data16_at o bytes = counted_at o w16 bytes

-- the data that bytes begin with, after a length of 32 bits
unfoldable pub data32_at : Order → List ℕ → Option (List ℕ × List ℕ)
data32_at o bytes = counted_at o w32 bytes

-- the counted data that the bytes begin with
abbrev pub data_at : Lengths → List ℕ → Option (List ℕ × List ℕ)
data_at (Bits16 o) = data16_at o
data_at (Bits32 o) = data32_at o

-- n items one after the other, each as `read` reads it, and the bytes after them
abbrev pub list_at : {X : Type 0} → (List ℕ → Option (X × List ℕ)) → ℕ → List ℕ → Option (List X × List ℕ)
list_at read zero bytes = Some ([], bytes)
list_at read (suc n) bytes = do
  first ← read bytes
  others ← list_at read n first.1
  Some (first.0 ∷ others.0, others.1)

-- those items, or none if the bytes begin with fewer
abbrev pub list_in : {X : Type 0} → (List ℕ → Option (X × List ℕ)) → ℕ → List ℕ → List X
list_in read n bytes = unwrap_or (option_map (λ x. x.0) (list_at read n bytes)) []

-- the bytes after those items, if there are that many
abbrev pub list_end : {X : Type 0} → (List ℕ → Option (X × List ℕ)) → ℕ → List ℕ → Option (List ℕ)
list_end read n bytes = option_map (λ x. x.1) (list_at read n bytes)

-- the n components of a keytab's name, each with a length of 16 bits
unfoldable pub components_at : Order → ℕ → List ℕ → Option (List (List ℕ) × List ℕ)
components_at o n bytes = list_at (data16_at o) n bytes

-- how many components a name has by its count field, or `None` if a count of version 1 is too small to include the realm
abbrev pub components_of_count : KtFormat → ℕ → Option ℕ
components_of_count f n = if nat_lt n (counted_realms f) then None else Some (n - counted_realms f)

-- the name type that bytes begin with; in version 1, where none is written, 0
abbrev pub name_type_at : KtFormat → List ℕ → Option (ℕ × List ℕ)
name_type_at f bytes = if has_name_type f then number_at Big w32 bytes else Some (0, bytes)

-- the name that bytes of a keytab begin with, and the bytes after the name
unfoldable pub kt_principal_at : KtFormat → List ℕ → Option (Parts × List ℕ)
kt_principal_at f bytes = do
  count ← number_at (order_of f) w16 bytes
  n ← components_of_count f count.0
  realm ← data16_at (order_of f) count.1
  components ← components_at (order_of f) n realm.1
  name_type ← name_type_at f components.1
  Some (record { name_type = name_type.0; realm = realm.0; components = components.0 }, name_type.1)

-- the name that bytes of a credential cache begin with, and the bytes after the name
unfoldable pub cc_principal_at : List ℕ → Option (Parts × List ℕ)
cc_principal_at bytes = do
  name_type ← number_at Big w32 bytes
  count ← number_at Big w32 name_type.1
  realm ← data32_at Big count.1
  components ← list_at (data32_at Big) count.0 realm.1
  Some (record { name_type = name_type.0; realm = realm.0; components = components.0 }, components.1)

-- the result of a call at a place, a part mapped by `view` and the place after it, is what the definition reads there
abbrev pub ReadsAt : {X Y : Type 0} → (X → Y) → List ℕ → Option (X × ℕ) → Option (Y × List ℕ) → Type 0
ReadsAt view bytes (Some x) read = (read ≡ Some (view x.0, drop x.1 bytes)) × (x.1 ≤ length bytes)
ReadsAt view bytes None read = read ≡ None

-- vectors as lists
abbrev pub items_of : {A Z : Type 0} → List (Vec A Z) → List (List A)
items_of vs = map vec_items vs

-- the name type, realm and components of an owned name
abbrev pub principal_parts : {A : Type 0} → Principal A → Parts
principal_parts p = record { name_type = p.name_type; realm = vec_items p.realm; components = items_of (vec_items p.components) }

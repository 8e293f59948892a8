-- A length and its field.
use Rattle.krb_keytab.proofs.Cited.{◌≡◌, ℕ, ◌^◌, ◌<◌, List, take, arith, KtFormat, Length, length_of, field_of, size_of, HasField}
use Rattle.krb_keytab.specs.Cells.{Cell, IsCell, bytes_of, size, length_of_cell, cell_in}

-- a field says this length, whose field it is
pub record Means (n : ℕ) (l : Length) : Type 0 where
  pub field : field_of l ≡ n
  pub has : HasField l

pub means : (n : ℕ) (l : Length) → n < 2 ^ 32 → length_of n ≡ l → Means n l
means n l lt is = search arith

-- a length is read back from its field
pub length_again : (l : Length) → HasField l → length_of (field_of l) ≡ l
length_again l has = search arith

-- ---- of a cell

pub cell_has : (f : KtFormat) (c : Cell) → IsCell f c → HasField (length_of_cell c)
cell_has f c sound = search arith

pub size_is : (c : Cell) → size_of (length_of_cell c) ≡ size c
size_is c = search arith

-- a cell is what its length says of its bytes
pub cell_again : (c : Cell) (l : Length) (bytes : List ℕ) → l ≡ length_of_cell c → take (size c) bytes ≡ bytes_of c → cell_in l (take (size_of l) bytes) ≡ c
cell_again c l bytes is taken = search arith

-- The first cell of bytes, by its length.
use Rattle.krb_keytab.proofs.Cited.{◌≡◌, ℕ, ◌+◌, ◌≤◌, List, [], ◌∷◌, ◌++◌, length, take, drop, Some, None, refl, sym, ap, subst, ◌∙◌, append_assoc, length-append, arith, flat_map, AllByRecursion, w32, take_at, drop_at, length-drop, flat_map-cons, KtFormat, order_of, number_at, IsBytes, some_is, wide32, Length, length_of, size_of, Cell, Contents, bytes_of, length_field, cell, cell_in, end_bytes, next, contents, IsCell, IsSpelled, size, IsCellOrNothing, IsFirst, More}
use Rattle.krb_keytab.proofs.CellLemmas.{contents_next, contents_spelled, cell_again, field_again}
use Rattle.krb_keytab.proofs.Cuts.{cell_len}
use Rattle.krb_keytab.proofs.LengthLemmas.{length_again, cell_has, size_is, cell_again as cell_of_bytes}

-- a cell at the front of bytes
record FirstCell (f : KtFormat) (bytes : List ℕ) (c : Cell) : Type 0 where
  pub sound : IsCell f c
  pub number : number_at (order_of f) w32 bytes ≡ Some (length_field c, drop 4 bytes)
  pub taken : take (size c) (drop 4 bytes) ≡ bytes_of c
  pub next : next f bytes ≡ More c (drop (4 + size c) bytes)
  pub within : 4 + size c ≤ length bytes

first_cell_of : (f : KtFormat) (c : Cell) (rest bytes : List ℕ) → bytes ≡ cell (order_of f) c ++ rest → IsCell f c → FirstCell f bytes c
first_cell_of f c rest bytes is sound = search (arith, wide32, append_assoc, drop_at, cell_len, field_again, take_at, cell_again, length-append)

-- the first of the cells that bytes hold is known by its length
first_cell_by : (f : KtFormat) (bytes : List ℕ) (k : Contents) (c : Cell) (cs : List Cell) → k.cells ≡ c ∷ cs → IsSpelled f bytes k → FirstCell f bytes c
first_cell_by f bytes k c cs is spelled =
    let o = order_of f in
    let parts : bytes ≡ cell o c ++ (flat_map (cell o) cs ++ end_bytes o k.end) =
    spelled.parts ∙ ap (λ (x : List Cell). flat_map (cell o) x ++ end_bytes o k.end) is
    ∙ ap (λ (b : List ℕ). b ++ end_bytes o k.end) (flat_map-cons (cell o) c cs) ∙ append_assoc (cell o c) (flat_map (cell o) cs) (end_bytes o k.end) in
    first_cell_of f c (flat_map (cell o) cs ++ end_bytes o k.end) bytes parts (subst (AllByRecursion (IsCell f)) is spelled.sound.cells).0

-- ---- by the number that was read

-- a length, and bytes that hold its cell and others
pub record FirstRead (f : KtFormat) (bytes rest : List ℕ) (l : Length) : Type 0 where
  pub room : size_of l ≤ length rest
  pub first : IsFirst f bytes (cell_in l (take (size_of l) rest))

read_first : (f : KtFormat) (bytes rest : List ℕ) (n : ℕ) (l : Length) (c : Cell) → IsBytes bytes → FirstCell f bytes c → number_at (order_of f) w32 bytes ≡ Some (n, rest) → l ≡ length_of n → FirstRead f bytes rest l
read_first f bytes rest n l c fits t e is = search (arith, some_is, length_again, cell_has, size_is, cell_of_bytes, length-drop, contents_next)

no_number : (f : KtFormat) (n : ℕ) (rest : List ℕ) → number_at (order_of f) w32 [] ≡ Some (n, rest) → ⊥
no_number f n rest e = cc

first_by : (f : KtFormat) (bytes rest : List ℕ) (n : ℕ) (l : Length) (cs : List Cell) → IsBytes bytes → IsCellOrNothing f bytes → (contents f bytes).cells ≡ cs → number_at (order_of f) w32 bytes ≡ Some (n, rest) → l ≡ length_of n → FirstRead f bytes rest l
first_by f bytes rest n l [] fits some cells e is = absurd (no_number f n rest (ap (number_at (order_of f) w32) (sym (some cells)) ∙ e))
first_by f bytes rest n l (c ∷ cs) fits some cells e is = read_first f bytes rest n l c fits (first_cell_by f bytes (contents f bytes) c cs cells (contents_spelled f bytes fits)) e is

pub first_read : (f : KtFormat) (bytes rest : List ℕ) (n : ℕ) (l : Length) → IsBytes bytes → IsCellOrNothing f bytes → number_at (order_of f) w32 bytes ≡ Some (n, rest) → l ≡ length_of n → FirstRead f bytes rest l
first_read f bytes rest n l fits some e is = first_by f bytes rest n l (contents f bytes).cells fits some refl e is

none_by : (f : KtFormat) (bytes : List ℕ) (cs : List Cell) → IsBytes bytes → (contents f bytes).cells ≡ cs → number_at (order_of f) w32 bytes ≡ None → cs ≡ []
none_by f bytes [] fits cells e = refl
none_by f bytes (c ∷ cs) fits cells e =
    let n = (first_cell_by f bytes (contents f bytes) c cs cells (contents_spelled f bytes fits)).number in
    absurd (cc (n, e))

-- if no number is left, no cell is
pub none_read : (f : KtFormat) (bytes : List ℕ) → IsBytes bytes → number_at (order_of f) w32 bytes ≡ None → (contents f bytes).cells ≡ []
none_read f bytes fits e = none_by f bytes (contents f bytes).cells fits refl e

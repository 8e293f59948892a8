-- Rows, the entries that they are of, and lists with something at the number of each name.
use Rattle.krb_names.proofs.Numbered.{number_test}
use Rattle.krb_names.proofs.SameNames.{same_equiv}
use Rattle.krb_text.specs.Etype.{is_weak}
use Rattle.krb_audit.proofs.Cited.{filter, ◌&&◌, Bool, replicate, cases_lt, get_or-replicate, get_or_past, length-replicate, name_in, at_number, stepped, have_same_name, Parts, Some, ◌≡◌, ℕ, cond, List, [], ◌∷◌, length, map, get_or, Option, Some, refl, ap, ◌∙◌, arith, fold, eqb-true, eq-eqb, PlacedEntry, Row, Stamp, AreRows, HasPlace, first_number, stamp_of, drop, get_or-set_same, get_or-set_other}

-- a row is that of an entry among all
pub record IsRow (all : List PlacedEntry) (x : PlacedEntry) (r : Row) : Type 0 where
  pub first : first_number x.1.principal all ≡ Some r.first
  pub stamp : r.stamp ≡ stamp_of x.1
  pub weak : r.is_weak ≡ is_weak x.1.enctype

pub head_row : (all xs : List PlacedEntry) (x : PlacedEntry) (r : Row) (rs : List Row) → AreRows all (x ∷ xs) (r ∷ rs) → IsRow all x r
head_row all xs x r rs h = search arith

pub other_rows : (all xs : List PlacedEntry) (x : PlacedEntry) (r : Row) (rs : List Row) → AreRows all (x ∷ xs) (r ∷ rs) → AreRows all xs rs
other_rows all xs x r rs h = ap (λ (l : List (Option ℕ × Stamp × Bool)). drop 1 l) h

-- rows that pass a test are those of the entries that do
pub filter_rows : (f : Row → Bool) (g : PlacedEntry → Bool) (all : List PlacedEntry) → ((r : Row) (x : PlacedEntry) → IsRow all x r → f r ≡ g x) → (xs : List PlacedEntry) (rows : List Row) → AreRows all xs rows → AreRows all (filter g xs) (filter f rows)
filter_rows f g all each [] [] are = refl
filter_rows f g all each [] (r ∷ rs) are = absurd cc
filter_rows f g all each (x ∷ xs) [] are = absurd cc
filter_rows f g all each (x ∷ xs) (r ∷ rs) are = grind (arith, are, each r x (head_row all xs x r rs are), filter_rows f g all each xs rs (other_rows all xs x r rs are))

pub fold_rows : {V : Type 0} (f : V → Row → V) (g : V → PlacedEntry → V) (all : List PlacedEntry) → ((v : V) (r : Row) (x : PlacedEntry) → IsRow all x r → f v r ≡ g v x) → (v : V) (xs : List PlacedEntry) (rows : List Row) → AreRows all xs rows → fold f v rows ≡ fold g v xs
fold_rows f g all each v [] [] h = refl
fold_rows f g all each v [] (r ∷ rs) h = absurd cc
fold_rows f g all each v (x ∷ xs) [] h = absurd cc
fold_rows f g all each v (x ∷ xs) (r ∷ rs) h = grind (arith, each v r x (head_row all xs x r rs h), fold_rows f g all each (f v r) xs rs (other_rows all xs x r rs h))

-- ---- lists with a value for each name

pub get_or_none : {V : Type 0} (n i : ℕ) (none : V) → get_or (replicate n none) i none ≡ none
get_or_none n i none = search (arith, cases_lt, get_or-replicate, get_or_past, length-replicate)

-- the value at a number after the step of a row
pub one_stepped : {V : Type 0} (step : V → Row → V) (none : V) (i : ℕ) (r : Row) (list : List V) → HasPlace (length list) r → get_or (stepped step none list r) i none ≡ at_number step i (get_or list i none) r
one_stepped step none i r list lt = grind (arith, lt, eqb-true r.first i, eq-eqb r.first i, get_or-set_same list i (step (get_or list i none) r) none, get_or-set_other list r.first i (step (get_or list r.first none) r) none)

-- a value for a name, after the steps of the rows of its entries
pub at_name : {V : Type 0} (step : V → Row → V) (g : V → PlacedEntry → V) (none : V) (all xs : List PlacedEntry) (rows : List Row) (list : List V) (p : Parts) (i : ℕ) → AreRows all xs rows → ((v : V) (r : Row) (x : PlacedEntry) → IsRow all x r → step v r ≡ g v x) → ((n : ℕ) → get_or list n none ≡ fold (at_number step n) none rows) → first_number p all ≡ Some i
    → get_or list i none ≡ fold (λ v x. cond (have_same_name p x.1.principal) (g v x) v) none xs
at_name step g none all xs rows list p i are each kept first =
    kept i ∙ fold_rows (at_number step i) (λ v x. cond (have_same_name p x.1.principal) (g v x) v) all
    (λ v r x is. grind (arith, each v r x is, same_equiv.symm p x.1.principal, number_test name_in have_same_name same_equiv x.1.principal p all r.first i is.first first)) none xs rows are

-- The numbers of classes, one entry after the other.
use Rattle.krb_copy.proofs.Cited.{◌≡◌, ℕ, ◌+◌, ◌<◌, List, [], ◌∷◌, ◌++◌, length, take, drop, get_or, Some, sym, ap, ◌∙◌, arith, map, not, ◌==◌, append_assoc, map_push, take_more, drop_more, eq-eqb, ne_eqb, PlacedEntry, are_twins, ClassKey, BTreeMap, IsClassKey, class_number, entry_of, row_due, rows_due, shown, Row, number_is, position_any, position_at}
use Rattle.krb_copy.specs.Diff.{has_twin}
use Rattle.krb_names.specs.Numbers.{AreNumbers, GetsNumber}
use Rattle.krb_copy.proofs.Alike.{twins_equiv}
use Rattle.krb_copy.proofs.ClassKeys.{classes_agree}

-- the row of the next entry
pub row_is : (all before rest : List PlacedEntry) (x : PlacedEntry) (k : ClassKey) (number next : ℕ) (old new : BTreeMap ClassKey ℕ) → before ++ x ∷ rest ≡ all → next ≡ length before → AreNumbers entry_of are_twins IsClassKey before old → IsClassKey x.1 k → GetsNumber old new k next number → (Some number, (number == next), x) ≡ row_due all before x
row_is all before rest x k number next old new parts is are of_x gets =
    let due : Some number ≡ class_number x.1 all = sym (ap (class_number x.1) (sym parts) ∙ number_is entry_of are_twins twins_equiv IsClassKey classes_agree before x k next number old new are of_x is gets rest) in
    let first : (number == next) ≡ not (has_twin x.1 before) =
    grind (arith, gets.is, are x.1 k of_x, is, position_any (λ (y : PlacedEntry). are_twins x.1 y.1) 0 before, position_at (λ (y : PlacedEntry). are_twins x.1 y.1) before number x, eq-eqb number next, ne_eqb number next) in
    λ i. (due i, first i, x)

-- ---- entries in turn

pub take_here : (before es : List PlacedEntry) (i : ℕ) (x : PlacedEntry) → i < length es → x ≡ get_or es i x → (before ++ take i es) ++ x ∷ [] ≡ before ++ take (i + 1) es
take_here before es i x lt here = append_assoc before (take i es) (x ∷ []) ∙ ap (λ (xs : List PlacedEntry). before ++ xs) (ap (λ (y : PlacedEntry). take i es ++ y ∷ []) here ∙ sym (take_more es i x lt))

pub drop_here : (es : List PlacedEntry) (i : ℕ) (x : PlacedEntry) → i < length es → x ≡ get_or es i x → drop i es ≡ x ∷ drop (i + 1) es
drop_here es i x lt here = drop_more es i x lt ∙ ap (λ (y : PlacedEntry). y ∷ drop (i + 1) es) (sym here)

-- the rows with that of one entry more
pub one_more : (all before es : List PlacedEntry) (i : ℕ) (x : PlacedEntry) (rows : List Row) (r : Row) → i < length es → x ≡ get_or es i x → shown r ≡ row_due all (before ++ take i es) x → map shown (rows ++ r ∷ []) ++ rows_due all (before ++ take (i + 1) es) (drop (i + 1) es) ≡ map shown rows ++ rows_due all (before ++ take i es) (drop i es)
one_more all before es i x rows r lt here is = search (arith, take_here, map_push, append_assoc, drop_here)

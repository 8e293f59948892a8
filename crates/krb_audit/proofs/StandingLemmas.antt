-- The names with young entries or strong ones, and the selected entries, from rows.
use Rattle.krb_audit.proofs.Cited.{filter, filter_agree, eq-eqb, name_in, subst, AreStrong, is_strong_row, at_number, get_or, ◌≡◌, arith, refl, ℕ, Bool, false, cond, List, [], ◌∷◌, map, Option, ap, sym, ◌∙◌, ◌&&◌, ◌||◌, ◌==◌, not, fold, list_any, Parts, EntryParts, have_same_name, PlacedEntry, Row, Stamp, is_old, AreRows, has_selected_kvno, AreNewest, selects_row, or-false, Any, Exactly, Newest, Beyond, Some, is_young, AreYoung, is_old_row, is_young_row}
use Rattle.krb_text.specs.Etype.{is_weak}
use Rattle.krb_audit.specs.declared.selection.SelectedKvno.{SelectedKvno}
use Rattle.krb_names.proofs.Numbered.{number_test}
use Rattle.krb_names.proofs.SameNames.{same_equiv}
use Rattle.krb_audit.proofs.LeftLemmas.{IsOfVersions, are_next, filter_twice, left_alike, left_are}
use Rattle.krb_audit.proofs.NewestStamps.{old_row}
use Rattle.krb_audit.proofs.RowLemmas.{IsRow, at_name, filter_rows}
use Rattle.krb_audit.specs.Newest.{is_left, left_after}
use Rattle.krb_audit.specs.Selection.{is_old_for}
use Rattle.krb_audit.specs.Standings.{AreYoungOf, more_kept, selected_marks}
use Rattle.std.specs.Prelude.{◌-◌}

-- ---- names with a young entry

any_folded : (young : PlacedEntry → Bool) (p : Parts) (xs : List PlacedEntry) (b : Bool) → fold (λ (b : Bool) (x : PlacedEntry). cond (have_same_name p x.1.principal) (b || young x) b) b xs ≡ (b || list_any (λ x. have_same_name p x.1.principal && young x) xs)
any_folded young p [] b = sym (or-false b)
any_folded young p (x ∷ xs) b = grind (arith, any_folded young p xs)

pub are_young : (now seconds : ℕ) (all xs : List PlacedEntry) (rows : List Row) (newest : List (Option Stamp)) (list : List Bool) → AreRows all xs rows → AreNewest all xs newest → ((i : ℕ) → get_or list i false ≡ fold (at_number (λ (b : Bool) (r : Row). b || is_young_row now seconds newest r) i) false rows) → AreYoungOf (Some seconds) now all xs list
are_young now seconds all xs rows newest list are stamps kept p i first =
    at_name (λ (b : Bool) (r : Row). b || is_young_row now seconds newest r) (λ (b : Bool) (x : PlacedEntry). b || (is_young now seconds x.1 && not (is_old xs x.1))) false all xs rows list p i are
    (λ b r x is. ap (λ (s : Stamp). b || (is_young now seconds (record { principal = x.1.principal; timestamp = s.timestamp; version = 0; enctype = 0; key = [] }) && not (is_old_row newest r))) is.stamp
    ∙ ap (λ (old : Bool). b || (is_young now seconds x.1 && not old)) (old_row all xs newest r x stamps is)) kept first
    ∙ any_folded (λ x. is_young now seconds x.1 && not (is_old xs x.1)) p xs false

-- ---- names with a strong entry

pub are_strong : (xs : List PlacedEntry) (rows : List Row) (newest : List (Option Stamp)) (list : List Bool) → AreRows xs xs rows → AreNewest xs xs newest → ((i : ℕ) → get_or list i false ≡ fold (at_number (λ (b : Bool) (r : Row). b || is_strong_row newest r) i) false rows) → AreStrong xs list
are_strong xs rows newest list are stamps kept p i first =
    at_name (λ (b : Bool) (r : Row). b || is_strong_row newest r) (λ (b : Bool) (x : PlacedEntry). b || (not (is_weak x.1.enctype) && not (is_old xs x.1))) false xs xs rows list p i are
    (λ b r x is. λ j. b || (not (is.weak j) && not (old_row xs xs newest r x stamps is j))) kept first
    ∙ any_folded (λ x. not (is_weak x.1.enctype) && not (is_old xs x.1)) p xs false

-- ---- selected kvnos

-- an entry has a selected kvno, if it is left without the kvnos that are passed over
abbrev may_go : SelectedKvno → ℕ → List PlacedEntry → EntryParts → Bool
may_go (Beyond keep age) now xs e = is_old_for now age (left_after (keep - 1) xs) e
may_go kvno now xs e = has_selected_kvno kvno now xs e

selects_by : (kvno : SelectedKvno) (now : ℕ) (xs : List PlacedEntry) (newest : List (Option Stamp)) (young : List Bool) (r : Row) (x : PlacedEntry) → AreNewest xs (left_after (more_kept kvno) xs) newest → AreYoung kvno now xs (left_after (more_kept kvno) xs) young → IsRow xs x r → selects_row kvno newest young r ≡ may_go kvno now xs x.1
selects_by Any now xs newest young r x stamps marks is = refl
selects_by (Exactly version) now xs newest young r x stamps marks is = ap (λ (s : Stamp). s.kvno == version) is.stamp
selects_by Newest now xs newest young r x stamps marks is = ap not (old_row xs xs newest r x stamps is)
selects_by (Beyond keep age) now xs newest young r x stamps marks is = λ i. not (marks x.1.principal r.first is.first i) && old_row xs (left_after (keep - 1) xs) newest r x stamps is i

left_selected : (kvno : SelectedKvno) (now : ℕ) (xs : List PlacedEntry) (e : EntryParts) → (is_left (more_kept kvno) xs e && may_go kvno now xs e) ≡ has_selected_kvno kvno now xs e
left_selected Any now xs e = refl
left_selected (Exactly version) now xs e = refl
left_selected Newest now xs e = refl
left_selected (Beyond keep age) now xs e = refl

selects_alike : (kvno : SelectedKvno) (newest : List (Option Stamp)) (young : List Bool) (r s : Row) → s.first ≡ r.first → s.stamp.kvno ≡ r.stamp.kvno → selects_row kvno newest young r ≡ selects_row kvno newest young s
selects_alike Any newest young r s first version = refl
selects_alike (Exactly given) newest young r s first version = ap (λ (n : ℕ). n == given) (sym version)
selects_alike Newest newest young r s first version = grind (arith, first, version)
selects_alike (Beyond keep age) newest young r s first version = grind (arith, first, version)

pub are_selected : (kvno : SelectedKvno) (now : ℕ) (xs : List PlacedEntry) (newest : List (Option Stamp)) (young : List Bool) (rows left : List Row) → AreRows xs xs rows → AreRows xs (left_after (more_kept kvno) xs) left → AreNewest xs (left_after (more_kept kvno) xs) newest → AreYoung kvno now xs (left_after (more_kept kvno) xs) young
    → selected_marks (filter (selects_row kvno newest young) left) rows ≡ map (λ x. has_selected_kvno kvno now xs x.1) xs
are_selected kvno now xs newest young rows left are are_left stamps ages =
    let n = more_kept kvno in
    let selects : (r : Row) (x : PlacedEntry) → IsRow xs x r → selects_row kvno newest young r ≡ may_go kvno now xs x.1 = λ r x row. selects_by kvno now xs newest young r x stamps ages row in
    let same = ap (filter (λ x. may_go kvno now xs x.1)) (left_are n xs) ∙ filter_twice (λ x. is_left n xs x.1) (λ x. may_go kvno now xs x.1) xs ∙ filter_agree _ _ (λ (x : PlacedEntry). left_selected kvno now xs x.1) xs in
    let alike : IsOfVersions xs (λ x. has_selected_kvno kvno now xs x.1) = λ r s x y of_x of_y first version.
    let names = sym (number_test name_in have_same_name same_equiv x.1.principal y.1.principal xs r.first s.first of_x.first of_y.first) ∙ eq-eqb r.first s.first (sym first) in
    let versions : x.1.version ≡ y.1.version = ap (λ (t : Stamp). t.kvno) (sym of_x.stamp) ∙ sym version ∙ ap (λ (t : Stamp). t.kvno) of_y.stamp in
    let going = sym (selects r x of_x) ∙ selects_alike kvno newest young r s first version ∙ selects s y of_y in
    sym (left_selected kvno now xs x.1) ∙ (λ i. left_alike n xs x.1 y.1 names versions i && going i) ∙ left_selected kvno now xs y.1 in
    are_next xs (λ x. has_selected_kvno kvno now xs x.1) alike xs rows _ are (subst (λ (ys : List PlacedEntry). AreRows xs ys (filter (selects_row kvno newest young) left)) same (filter_rows (selects_row kvno newest young) (λ x. may_go kvno now xs x.1) xs selects (left_after n xs) left are_left))

-- Texts with stars: their faults, and texts that have none.
use Rattle.krb_names.proofs.Cited.{◌≡◌, ◌∙◌, sym, ap, refl, arith, ℕ, Bool, true, false, List, [], ◌∷◌, Result, Ok, Err, Option, None, Some, ◌&&◌, ◌==◌, is_some, eqb-true}
use Rattle.std.specs.List.{filter_map}
use Rattle.std.specs.Result.{result_err}
use Rattle.std.proofs.lemmas.Bool.{or_parts}
use Rattle.std.proofs.Common.{◌⊎◌, inl, inr, IsOk}
use Rattle.krb_wire.specs.declared.atom.Atom.{Atom}
use Rattle.krb_wire.specs.declared.atom.Atom.TheVariants.{Byte, Slash, At, Lone}
use Rattle.krb_wire.specs.declared.name_fault.NameFault.{NameFault}
use Rattle.krb_wire.specs.declared.name_fault.NameFault.TheVariants.{LoneBackslash, NoMemory, SecondAt, SlashInRealm}
use Rattle.krb_wire.specs.Atoms.{after_at, atoms, atoms_after}
use Rattle.krb_wire.specs.NameOf.{components_of, faults_of, first_fault, name_of, name_or_fault, realm_fault, realm_of}
use Rattle.krb_names.specs.Patterns.{has_star, pattern_of, single_after, star, starred, starred_after}

-- ---- the marks of a text: its atoms but for the bytes

abbrev mark : Atom → Option Atom
mark (Byte b) = None
mark Slash = Some Slash
mark At = Some At
mark Lone = Some Lone

abbrev marks : Bool → List ℕ → List Atom
marks is_quoted text = filter_map mark (atoms_after is_quoted text)

marks_starred : (is_quoted : Bool) (text : List ℕ) → marks is_quoted (starred_after is_quoted text) ≡ marks is_quoted text
marks_starred true [] = refl
marks_starred false [] = refl
marks_starred true (b ∷ bs) = marks_starred false bs
marks_starred false (b ∷ bs) = grind (arith, marks_starred true bs, marks_starred false bs, eqb-true b 42)

-- after a star there is no open backslash
marks_single : (is_quoted after_star : Bool) (text : List ℕ) → (is_quoted && after_star) ≡ false → marks is_quoted (single_after after_star text) ≡ marks is_quoted text
marks_single true after_star [] apart = refl
marks_single false after_star [] apart = refl
marks_single true true (b ∷ bs) apart = absurd cc
marks_single true false (b ∷ bs) apart = marks_single false (b == star) bs refl
marks_single false false (b ∷ bs) apart = grind (arith, marks_single true (b == star) bs, marks_single false (b == star) bs, eqb-true b star)
marks_single false true (b ∷ bs) apart = grind (arith, marks_single true (b == star) bs, marks_single false (b == star) bs, marks_single false true bs, eqb-true b star)

realm_faults : (xs : List Atom) → filter_map realm_fault (filter_map mark xs) ≡ filter_map realm_fault xs
realm_faults [] = refl
realm_faults (Byte b ∷ xs) = realm_faults xs
realm_faults (Slash ∷ xs) = ap (λ (l : List NameFault). SlashInRealm ∷ l) (realm_faults xs)
realm_faults (At ∷ xs) = ap (λ (l : List NameFault). SecondAt ∷ l) (realm_faults xs)
realm_faults (Lone ∷ xs) = ap (λ (l : List NameFault). LoneBackslash ∷ l) (realm_faults xs)

mark_faults : (xs : List Atom) → faults_of (filter_map mark xs) ≡ faults_of xs
mark_faults [] = refl
mark_faults (Byte b ∷ xs) = mark_faults xs
mark_faults (Slash ∷ xs) = mark_faults xs
mark_faults (At ∷ xs) = realm_faults xs
mark_faults (Lone ∷ xs) = ap (λ (l : List NameFault). LoneBackslash ∷ l) (mark_faults xs)

mark_realm : (xs : List Atom) → is_some (after_at (filter_map mark xs)) ≡ is_some (after_at xs)
mark_realm [] = refl
mark_realm (Byte b ∷ xs) = mark_realm xs
mark_realm (Slash ∷ xs) = mark_realm xs
mark_realm (At ∷ xs) = refl
mark_realm (Lone ∷ xs) = mark_realm xs

-- ---- faults

err_of : (fault : Option NameFault) (xs ys : List Atom) (cs ds : List (List ℕ)) → is_some (after_at xs) ≡ is_some (after_at ys) → result_err (name_or_fault fault (realm_of xs None) cs) ≡ result_err (name_or_fault fault (realm_of ys None) ds)
err_of fault xs ys cs ds same = grind (arith, same)

-- a text with stars has the fault that the text has as a name
pub same_err : (text : List ℕ) → result_err (pattern_of text) ≡ result_err (name_of text None)
same_err text =
    let xs = atoms (starred text) in
    let ys = atoms text in
    let same = marks_single false false (starred_after false text) refl ∙ marks_starred false text in
    let faults : faults_of xs ≡ faults_of ys = sym (mark_faults xs) ∙ ap faults_of same ∙ mark_faults ys in
    let realm : is_some (after_at xs) ≡ is_some (after_at ys) = sym (mark_realm xs) ∙ ap (λ (l : List Atom). is_some (after_at l)) same ∙ mark_realm ys in
    ap (λ (fs : List NameFault). result_err (name_or_fault (first_fault fs) (realm_of xs None) (components_of xs))) faults ∙ err_of (first_fault (faults_of ys)) xs ys (components_of xs) (components_of ys) realm

err_from : {X : Type 0} (r s : Result X NameFault) (fault : NameFault) → result_err r ≡ result_err s → s ≡ Err fault → r ≡ Err fault
err_from r s fault same is = grind (arith, same, is)

ok_from : {X : Type 0} (r s : Result X NameFault) → result_err r ≡ result_err s → IsOk s → IsOk r
ok_from (Ok x) s same ok = refl
ok_from (Err e) (Ok y) same ok = absurd cc
ok_from (Err e) (Err f) same ok = ok

pub pattern_ok : (text : List ℕ) → IsOk (name_of text None) → IsOk (pattern_of text)
pattern_ok text = ok_from (pattern_of text) (name_of text None) (same_err text)

pub pattern_err : (text : List ℕ) (fault : NameFault) → (name_of text None ≡ Err fault) ⊎ ((fault ≡ NoMemory) × IsOk (name_of text None)) → (pattern_of text ≡ Err fault) ⊎ ((fault ≡ NoMemory) × IsOk (pattern_of text))
pattern_err text fault (inl is) = inl (err_from (pattern_of text) (name_of text None) fault (same_err text) is)
pattern_err text fault (inr none) = inr (none.0, pattern_ok text none.1)

-- ---- texts without a star

same_single : (text : List ℕ) → has_star (single_after false text) ≡ false → single_after false text ≡ text
same_single [] none = refl
same_single (b ∷ bs) none =
    let parts = or_parts (b == star) (has_star (single_after (b == star) bs)) none in
    let plain = ap (λ (after_star : Bool). single_after after_star bs) parts.0 in
    ap (λ (l : List ℕ). b ∷ l) (plain ∙ same_single bs (ap has_star (sym plain) ∙ parts.1))

same_quoted : (is_quoted : Bool) (text : List ℕ) → has_star (starred_after is_quoted text) ≡ false → starred_after is_quoted text ≡ text
same_quoted true [] none = refl
same_quoted false [] none = refl
same_quoted true (b ∷ bs) none = ap (λ (l : List ℕ). b ∷ l) (same_quoted false bs (or_parts (b == star) (has_star (starred_after false bs)) none).1)
same_quoted false (b ∷ bs) none = grind (arith, none, same_quoted true bs, same_quoted false bs)

pub same_text : (text : List ℕ) → has_star (starred text) ≡ false → starred text ≡ text
same_text text none =
    let single = same_single (starred_after false text) none in
    single ∙ same_quoted false text (ap has_star (sym single) ∙ none)

-- Twins are alike in the same way in both directions and over three entries.
use Rattle.krb_copy.proofs.Cited.{true, false, ◌≡◌, ◌∙◌, sym, EntryParts, are_twins, are_same, and_parts, nat_eq_equiv, on_equiv, and_equiv, nat_list_eq_equiv}
use Rattle.std.specs.Cmp.{IsEquivalence}
use Rattle.krb_names.proofs.SameNames.{same_equiv as names_equiv}

pub twins_equiv : IsEquivalence are_twins
twins_equiv = and_equiv (on_equiv (λ (x : EntryParts). x.principal) names_equiv) (and_equiv (on_equiv (λ (x : EntryParts). x.version) nat_eq_equiv) (on_equiv (λ (x : EntryParts). x.enctype) nat_eq_equiv))

pub same_equiv : IsEquivalence are_same
same_equiv = and_equiv twins_equiv (on_equiv (λ (x : EntryParts). x.key) nat_list_eq_equiv)

pub same_are_twins : (x y : EntryParts) → are_same x y ≡ true → are_twins x y ≡ true
same_are_twins x y e = (and_parts (are_twins x y) _ e).0

-- twins have the same twins
pub alike : (x y : EntryParts) → are_twins x y ≡ true → are_twins x ≡ are_twins y
alike x y twin = λ i z. twins_equiv.congr x y z twin i

-- a twin of one of two that are no twins is none of the other
pub apart : (x y z : EntryParts) → are_twins x y ≡ false → are_twins y z ≡ true → are_twins x z ≡ false
apart x y z other twin = twins_equiv.symm x z ∙ sym (twins_equiv.congr y z x twin) ∙ twins_equiv.symm y x ∙ other

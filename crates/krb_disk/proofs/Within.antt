-- Rights that are a subset of others.
use Rattle.std.proofs.Common.{ℕ, Bool, true, false, arith, sym, ap, ◌∙◌, bit_and}
use Rattle.std.specs.Int.Bits.{and_self}
use Rattle.std.proofs.lemmas.Nat.{and_assoc, and_comm, and_le_l}
use Rattle.krb_disk.specs.Mode.{IsWithin, IsNewMode, GivesNoMore, owner_rights, group_rights, other_rights}

-- the intersection of two is a subset of the first
within_first : (a b : ℕ) → IsWithin (bit_and a b) a
within_first a b = and_assoc a a b ∙ ap (λ (x : ℕ). bit_and a x) (and_comm b a) ∙ sym (and_assoc b a a) ∙ ap (λ (x : ℕ). bit_and x b) (and_self a)

-- and of the second
within_second : (a b : ℕ) → IsWithin (bit_and a b) b
within_second a b = and_assoc b a b ∙ ap (λ (x : ℕ). bit_and a x) (and_self b)

-- subsets are transitive
within-trans : (a b c : ℕ) → IsWithin a b → IsWithin b c → IsWithin a c
within-trans a b c p q = ap (λ (x : ℕ). bit_and x c) (sym p) ∙ and_assoc c a b ∙ ap (λ (x : ℕ). bit_and a x) q ∙ p

-- the new mode gives nobody more than the old one
pub gives_no_more : (has_owner has_group : Bool) (old new : ℕ) → IsNewMode has_owner has_group old new → GivesNoMore has_owner has_group old new
gives_no_more true true old new n = grind (arith, and_self)
gives_no_more false true old new n = grind (arith, within_first, within_second)
gives_no_more true false old new n = grind (arith, within_first, within_second, and_le_l)
gives_no_more false false old new n =
    let both = bit_and (other_rights old) (group_rights old) in
    let among : IsWithin (bit_and both (owner_rights old)) both = within_first both (owner_rights old) in
    let first = within-trans _ _ _ among (within_first (other_rights old) (group_rights old)) in
    let second = within-trans _ _ _ among (within_second (other_rights old) (group_rights old)) in
    grind (arith, within_second, and_le_l)

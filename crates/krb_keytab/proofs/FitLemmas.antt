-- The first hole, by the sizes of the leaves.
use Rattle.krb_keytab.proofs.Cited.{◌≡◌, ℕ, zero, suc, ◌+◌, ◌-◌, ◌<◌, ◌≤◌, List, [], ◌∷◌, ◌++◌, length, map, get_or, replicate, Some, None, refl, sym, subst, ◌∙◌, arith, AllByRecursion, position_from, KtFormat, Cell, Live, Free, IsCell, hole_from, Slot, free_size, slots_from, hole_of_slot, first_fit, nat_tests, Option, nat_le}
use Rattle.std.proofs.lemmas.Iterator.Adapters.{position_from-zero}
use Rattle.krb_keytab.proofs.SlotLemmas.{none}

-- the leaves: those of the cells, and zeros
abbrev pub leaves_of : List Slot → ℕ → List ℕ
leaves_of slots spare = map free_size slots ++ replicate spare 0

-- the number of the first leaf that is large enough, if the first leaf has number n
abbrev leaf_from : ℕ → ℕ → List ℕ → Option ℕ
leaf_from need n sizes = position_from (λ m. nat_le need m) n sizes

-- it is that of the first hole
abbrev pub Finds : ℕ → ℕ → ℕ → List Cell → Option ℕ → Type 0
Finds at need n cs None = hole_from at need cs ≡ None
Finds at need n cs (Some i) = (n ≤ i) × (i < n + length cs) × (hole_from at need cs ≡ Some (hole_of_slot (get_or (slots_from at cs) (i - n) none)))

zeros_small : (need n spare : ℕ) → 0 < need → leaf_from need n (replicate spare 0) ≡ None
zeros_small need n zero some = refl
zeros_small need n (suc spare) some = search (arith, zeros_small need (n + 1) spare some)

-- a cell before that hole is skipped
finds : (f : KtFormat) (at need n spare : ℕ) (cs : List Cell) (o : Option ℕ) → 0 < need → AllByRecursion (IsCell f) cs → leaf_from need n (leaves_of (slots_from at cs) spare) ≡ o → Finds at need n cs o
finds f at need n spare [] o some sound is = subst (Finds at need n []) (sym (zeros_small need n spare some) ∙ is) refl
finds f at need n spare (Live b ∷ cs) o some sound is = grind (arith, nat_tests, finds f (at + (4 + length b)) need (n + 1) spare cs o some sound.1)
finds f at need n spare (Free b ∷ cs) o some sound is = grind (arith, nat_tests, finds f (at + (4 + length b)) need (n + 1) spare cs o some sound.1)

-- the leaf that is found is that of the first hole
pub found : (f : KtFormat) (need spare : ℕ) (cs : List Cell) (o : Option ℕ) → 0 < need → AllByRecursion (IsCell f) cs → o ≡ first_fit need (leaves_of (slots_from 2 cs) spare) → Finds 2 need 0 cs o
found f need spare cs o some sound is = finds f 2 need 0 spare cs o some sound (sym (is ∙ position_from-zero (λ m. nat_le need m) (leaves_of (slots_from 2 cs) spare)))

-- The places of a keytab's entries ascend.
use Rattle.krb_match.proofs.Cited.{◌≡◌, sym, refl, subst, arith, ℕ, ◌+◌, ◌<◌, ◌≤◌, List, [], ◌∷◌, length, Option, Some, None, AllByRecursion, PlacedEntry, placed_entries, Rises, EntryParts, entry_at, KeytabState, all_mapped}
use Rattle.krb_wire.specs.declared.format.KtFormat.{KtFormat}
use Rattle.krb_keytab.specs.Cells.{Cell, Live, Free}
use Rattle.krb_keytab.specs.CellViews.{cells_of}
use Rattle.krb_keytab.specs.Entries.{entries_in}
use Rattle.krb_keytab.proofs.EntryLists.{entries_of_cells}

-- entries from a place on
abbrev AreFrom : ℕ → List PlacedEntry → Type 0
AreFrom at xs = AllByRecursion (λ x. at ≤ x.0) xs

from_later : (at to : ℕ) (xs : List PlacedEntry) → at ≤ to → AreFrom to xs → AreFrom at xs
from_later at to xs le h = all_mapped _ _ xs (λ x from. omega (arith, from)) h

-- the entries of cells are from the first place on, and ascend
record Ascend (at : ℕ) (xs : List PlacedEntry) : Type 0 where
  from : AreFrom at xs
  rises : Rises xs

with_first : (at n : ℕ) (o : Option EntryParts) (xs : List PlacedEntry) → at < n → Ascend n xs → (ys : List PlacedEntry) → ((o ≡ None → ys ≡ xs) × ((e : EntryParts) → o ≡ Some e → ys ≡ (at, e) ∷ xs)) → Ascend at ys
with_first at n None xs lt h ys is = subst (Ascend at) (sym (is.0 refl)) (record { from = from_later at n xs (omega (arith, lt)) h.from; rises = h.rises })
with_first at n (Some e) xs lt h ys is = subst (Ascend at) (sym (is.1 e refl)) (record { from = (omega arith, from_later at n xs (omega (arith, lt)) h.from); rises = (all_mapped _ _ xs (λ x from. omega (arith, from)) h.from, h.rises) })

ascend : (f : KtFormat) (at : ℕ) (cs : List Cell) → Ascend at (entries_in f at cs)
ascend f at [] = record { from = tt; rises = tt }
ascend f at (Live b ∷ cs) = with_first at (at + (4 + length b)) (entry_at f b) (entries_in f (at + (4 + length b)) cs) (omega arith) (ascend f (at + (4 + length b)) cs) (entries_in f at (Live b ∷ cs)) (λ e. grind (arith, e), λ x e. grind (arith, e))
ascend f at (Free b ∷ cs) = search (arith, from_later, ascend f (at + (4 + length b)) cs)

pub places_rise : (k : KeytabState) → Rises (placed_entries k)
places_rise k = subst Rises (entries_of_cells k (cells_of k) refl) (ascend k.format 2 k.contents.cells).rises

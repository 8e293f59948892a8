-- What a keytab returns, by its table.
use Rattle.krb_keytab.proofs.Cited.{◌≡◌, ℕ, ◌-◌, ◌^◌, ◌<◌, ◌≤◌, eqb, List, length, take, Option, sym, ap, ◌∙◌, arith, eqb-true, take_all, end_of, is_place, IsPlace, IsSound, KeytabState, store_of, end_place, Slot, places, slots_from, IsRank, SizeTree, first_fit, looks_for, IsHeightFor, IsIndex, IsFit, slot_at}
use Rattle.krb_keytab.proofs.SlotLemmas.{place_at}
use Rattle.krb_keytab.proofs.PlaceLemmas.{slots_len, place_is, place_by_rank}
use Rattle.krb_keytab.proofs.FitLemmas.{Finds, found, leaves_of}

-- the table of the keytab that is seen
pub table_held : {old k : KeytabState} {table now : List Slot} {t : SizeTree} → IsIndex old table t → old ≡ k → now ≡ table → now ≡ slots_from 2 k.contents.cells
table_held i is same = same ∙ i.table ∙ ap (λ (y : KeytabState). slots_from 2 y.contents.cells) is

-- ---- places

-- the place of the cell with a number
pub slot_place : (k : KeytabState) (i : ℕ) → i < length k.contents.cells → (slot_at k i).place ≡ end_place 2 (take i k.contents.cells)
slot_place k i lt = search (arith, place_at, slots_len, place_is)

pub end_by_table : (k : KeytabState) (rank : ℕ) → length k.contents.cells ≤ rank → end_of (store_of k) ≡ end_place 2 (take rank k.contents.cells)
end_by_table k rank le = ap (end_place 2) (sym (take_all rank k.contents.cells le))

pub is_place_by_rank : (k : KeytabState) (p rank n : ℕ) → IsRank (places (slots_from 2 k.contents.cells)) p rank → n ≡ end_place 2 (take rank k.contents.cells) → eqb n p ≡ is_place (store_of k) p
is_place_by_rank k p rank n r is = ap (λ (m : ℕ). eqb m p) is ∙ sym (place_by_rank 2 k.contents.cells p rank r)

-- a place is that of the cell of its rank, or the end
pub at_rank : (k : KeytabState) (p rank : ℕ) → IsRank (places (slots_from 2 k.contents.cells)) p rank → IsPlace (store_of k) p → p ≡ end_place 2 (take rank k.contents.cells)
at_rank k p rank r here = sym (eqb-true _ _ (sym (place_by_rank 2 k.contents.cells p rank r) ∙ here))

-- ---- holes

-- there is one least height
one_height : (n a b : ℕ) → IsHeightFor n a → IsHeightFor n b → a ≡ b
one_height n a b p q = search arith

fits_by : (k : KeytabState) (need : ℕ) (o : Option ℕ) → Finds 2 need 0 k.contents.cells o → IsFit k need o
fits_by k need o f = search arith

-- what the tree returns
pub fit_is : (k : KeytabState) (slots : List Slot) (t : SizeTree) (need : ℕ) (o : Option ℕ) → IsIndex k slots t → IsSound k.format k.contents → 0 < need → o ≡ first_fit need t.sizes → IsFit k need o
fit_is k slots t need o i sound some is =
    let cs = k.contents.cells in
    let spare = 2 ^ t.height - length slots in
    let leaves : o ≡ first_fit need (leaves_of (slots_from 2 cs) spare) = is ∙ ap (first_fit need) i.sizes ∙ ap (λ (s : List Slot). first_fit need (leaves_of s spare)) i.table in
    fits_by k need o (found k.format need spare cs o some sound.cells leaves)

pub looks_are : (k : KeytabState) (slots : List Slot) (t : SizeTree) (o : Option ℕ) (looks : ℕ) → IsIndex k slots t → looks ≡ looks_for t.height o → (height : ℕ) → IsHeightFor (length k.contents.cells) height → looks ≡ looks_for height o
looks_are k slots t o looks i is height least = search (arith, slots_len, one_height)

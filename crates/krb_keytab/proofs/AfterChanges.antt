-- After an addition and a removal: what was added is read back, and what was removed is gone.
use Rattle.krb_keytab.proofs.Cited.{◌≡◌, ℕ, ◌⊎◌, true, false, List, [], ◌++◌, length, map, replicate, Option, Some, None, Ok, refl, sym, ap, subst, ◌∙◌, inl, inr, is_some, append-nil, ◌>>=◌, bytes_from, EntryParts, entry_at, Cell, Live, size, KeytabState, store_cell, store_of, entry_at_place, fits, written_form, read_back, IsEntry, PlacedCell, zero_hole, with_zeros, record_in, first_hole, with_hole, with_record_in, with_last, put_result, cut_result, arith, nat_tests}
use Rattle.krb_walk.specs.Store.{end_of, fault_of, live_bytes as store_bytes}
use Rattle.krb_keytab.proofs.Cuts.{live_there}
use Rattle.krb_keytab.proofs.EntryLemmas.{entry_again}
use Rattle.krb_keytab.proofs.Replacements.{IsAt, live_is_at, hole_is_at, replaced_cells}
use Rattle.krb_keytab.proofs.Removals.{holds}
use Rattle.krb_keytab.proofs.WrittenLemmas.{written_spells}

-- ---- additions

-- a record in the first hole that is large enough
pub record FillsHole (k : KeytabState) (x : List ℕ) (given : ℕ × KeytabState) : Type 0 where
  pub hole : PlacedCell
  pub is : first_hole 2 (length x) k.contents.cells ≡ Some hole
  pub gives : (hole.0, with_record_in k x hole.0) ≡ given

-- an addition that is not refused: into such a hole, or after the cells
pub record PutsEntry (k : KeytabState) (e : EntryParts) (given : ℕ × KeytabState) : Type 0 where
  pub whole : is_some (fault_of (store_of k)) ≡ false
  pub fit : fits k.format e ≡ true
  pub how : FillsHole k (written_form k.format e) given ⊎ ((end_of (store_of k), with_last k (written_form k.format e)) ≡ given)

pub put_gives : (k : KeytabState) (e : EntryParts) (given : ℕ × KeytabState) → put_result k e ≡ Ok given → PutsEntry k e given
put_gives k e given put = grind (arith, nat_tests)

reads : (k : KeytabState) (e : EntryParts) (p zeros : ℕ) → fits k.format e ≡ true → IsEntry e → store_bytes (store_of k) p ≡ Some (written_form k.format e ++ replicate zeros 0) → entry_at_place k p ≡ Some (read_back k.format e)
reads k e p zeros fit is held =
    ap (λ (b : Option (List ℕ)). b >>= entry_at k.format) held
    ∙ entry_again k.format (read_back k.format e) (written_form k.format e ++ replicate {A = ℕ} zeros 0) (written_spells k.format e zeros fit is)

in_hole : (k : KeytabState) (e : EntryParts) (p : ℕ) (c : Cell) → fits k.format e ≡ true → IsEntry e → IsAt k.contents.cells 2 p c → entry_at_place (with_record_in k (written_form k.format e) p) p ≡ Some (read_back k.format e)
in_hole k e p c fit is s =
    let x = written_form k.format e in
    let held = holds (with_record_in k x p) s.front s.back (with_zeros x (size c)) p (replaced_cells (record_in x) k.contents.cells p c s) s.place in
    reads (with_record_in k x p) e p _ fit is held

behind : (k : KeytabState) (e : EntryParts) → fits k.format e ≡ true → IsEntry e → entry_at_place (with_last k (written_form k.format e)) (end_of (store_of k)) ≡ Some (read_back k.format e)
behind k e fit is =
    let x = written_form k.format e in
    let p = end_of (store_of k) in
    let held = holds (with_last k x) k.contents.cells [] x p refl refl in
    reads (with_last k x) e p 0 fit is (held ∙ ap (λ (b : List ℕ). Some b) (sym (append-nil x)))

-- what was added is read back at the place that the addition returns
pub added_reads : (k : KeytabState) (e : EntryParts) (given : ℕ × KeytabState) → IsEntry e → put_result k e ≡ Ok given → entry_at_place given.1 given.0 ≡ Some (read_back k.format e)
added_reads k e given is put =
    let p = put_gives k e given put in
    let Reads : ℕ × KeytabState → Type 0 = λ y. entry_at_place y.1 y.0 ≡ Some (read_back k.format e) in
    elim p.how [
      | inl h ↦ subst Reads h.gives (in_hole k e h.hole.0 h.hole.1 p.fit is (hole_is_at k.contents.cells 2 (length (written_form k.format e)) h.hole.0 h.hole.1 h.is).is_at)
      | inr last ↦ subst Reads last (behind k e p.fit is)
    ]

-- ---- removals

-- a removal that is not refused
pub record CutsRecord (k : KeytabState) (p : ℕ) (new : KeytabState) : Type 0 where
  pub whole : is_some (fault_of (store_of k)) ≡ false
  pub bytes : List ℕ
  pub held : store_bytes (store_of k) p ≡ Some bytes
  pub gives : with_hole k p ≡ new

pub cut_gives : (k : KeytabState) (p : ℕ) (new : KeytabState) → cut_result k p ≡ Ok new → CutsRecord k p new
cut_gives k p new cut = grind (arith, nat_tests)

-- what was removed is gone
pub removed_none : (k : KeytabState) (p : ℕ) (new : KeytabState) → cut_result k p ≡ Ok new → store_bytes (store_of new) p ≡ None
removed_none k p new cut =
    let c = cut_gives k p new cut in
    let old = Live c.bytes in
    let s = live_is_at k.contents.cells 2 p c.bytes c.held in
    ap (λ (x : KeytabState). store_bytes (store_of x) p) (sym c.gives)
    ∙ ap (λ (cs : List Cell). bytes_from 2 (map store_cell cs) p) (replaced_cells zero_hole k.contents.cells p old s) ∙ live_there s.front s.back (zero_hole old) p s.place

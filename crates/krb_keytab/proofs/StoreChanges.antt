-- An addition to a keytab, and a removal from it, change one cell of its store.
use Rattle.krb_keytab.proofs.Cited.{◌≡◌, ℕ, true, List, [], ◌∷◌, map, length, Some, None, Result, Ok, Err, inl, inr, refl, ap, subst, ◌∙◌, arith, IfOk, OnOk, map-append, length-replicate, leb-true, cuts-extends, place_kept, EntryParts, Cell, Live, Free, End, kind_of, KeytabState, store_cell, store_of, entry_at_place, written_form, read_back, IsEntry, replaced_at, zero_hole, is_hole, record_in, with_record_in, with_last, end_after, with_hole, put_result, cut_result, without, Code, keytab_rules, whole_of}
use Rattle.krb_walk.specs.declared.refusal.Refusal.{Refusal}
use Rattle.krb_walk.specs.declared.event.Event.TheVariants.{Cut}
use Rattle.krb_walk.specs.Store.{end_of, live_bytes as store_bytes, IsPlace}
use Rattle.krb_walk.specs.Changes.{OneCell, Puts, Cuts, Changes}
use Rattle.krb_walk.specs.Events.{SessionState, cut_reply, cut_store}
use Rattle.krb_walk.specs.History.{IsReady, AllLawful, history, replies, state_after}
use Rattle.krb_walk.proofs.Runs.{ran_of}
use Rattle.krb_keytab.specs.Laws.{AreRuns}
use Rattle.krb_walk.specs.Rules.{PutGives, CutGives}
use Rattle.krb_keytab.proofs.AfterChanges.{added_reads, put_gives, cut_gives, removed_none}
use Rattle.krb_keytab.proofs.Cuts.{store_sound}
use Rattle.krb_keytab.proofs.ImageChanges.{padded_len}
use Rattle.krb_keytab.proofs.Replacements.{IsAt, live_is_at, hole_is_at, replaced_cells}

-- replacing one cell changes one cell of the store
replaced_cell : (k : KeytabState) (change : Cell → Cell) (p : ℕ) (c : Cell) → IsAt k.contents.cells 2 p c
    → OneCell (store_of k) (store_of (record k { contents = record { cells = replaced_at 2 change p k.contents.cells; end = k.contents.end } })) p (store_cell c) (store_cell (change c))
replaced_cell k change p c s = record {
  before = map store_cell s.front;
  after = map store_cell s.back;
  place = s.place;
  old_cells = ap (map store_cell) s.parts ∙ map-append store_cell s.front (c ∷ s.back);
  new_cells = ap (map store_cell) (replaced_cells change k.contents.cells p c s) ∙ map-append store_cell s.front (change c ∷ s.back);
  first = refl;
  fault = refl;
}

-- ---- removals

cuts_at : (k : KeytabState) (p : ℕ) (b : List ℕ) → (store_of k).fault ≡ None → store_bytes (store_of k) p ≡ Some b → Cuts (store_of k) (store_of (with_hole k p)) p
cuts_at k p b whole held =
    let s = live_is_at k.contents.cells 2 p b held in
    let one = replaced_cell k zero_hole p (Live b) s in
    search (arith, length-replicate, one)

pub removal_cuts : (k new : KeytabState) (p : ℕ) (result : Result (Unit {0}) Code) → CutGives (cut_result k p) k result new → OnOk result (Cuts (store_of k) (store_of new) p)
removal_cuts k new p result a = search (arith, cut_gives, cuts_at, whole_of)

-- it keeps places
pub place_stays : (k new : KeytabState) (p q : ℕ) → cut_result k p ≡ Ok new → IsPlace (store_of k) q → IsPlace (store_of new) q
place_stays k new p q cut at = place_kept (store_of k) (store_of new) q (cuts-extends (store_of k) (store_of new) p (removal_cuts k new p (Ok tt) cut)) at

pub removal_gone : (k new : KeytabState) (p : ℕ) (result : Result (Unit {0}) Code) → CutGives (cut_result k p) k result new → OnOk result (store_bytes (store_of new) p ≡ None)
removal_gone k new p result a = search (arith, removed_none)

cut_lawful : (k : KeytabState) (p : ℕ) (given : Result KeytabState Code) → cut_result k p ≡ given → Changes (cut_reply p given) (store_of k) (store_of (cut_store k given))
cut_lawful k p (Ok new) cut = removal_cuts k new p (Ok tt) cut
cut_lawful k p (Err refused) cut = refl

cuts_lawful : (k : KeytabState) (places : List ℕ) → AllLawful keytab_rules (history keytab_rules (record { store = k; cursors = [] }) (map Cut places))
cuts_lawful k [] = tt
cuts_lawful k (p ∷ places) = (cut_lawful k p (cut_result k p) refl, cuts_lawful (cut_store k (cut_result k p)) places)

cuts_leave : (k : KeytabState) (places : List ℕ) → ◌≡◌ {A = SessionState KeytabState} (record { store = without k places; cursors = [] }) (state_after keytab_rules (record { store = k; cursors = [] }) (map Cut places))
cuts_leave k [] = refl
cuts_leave k (p ∷ places) = cuts_leave (cut_store k (cut_result k p)) places

-- removals are a run
pub cuts_ran : AreRuns
cuts_ran k places =
    let old : SessionState KeytabState = record { store = k; cursors = [] } in
    let ready : IsReady keytab_rules old = record { sound = store_sound k.contents.cells; cursors = λ w c e. absurd cc } in
    ran_of keytab_rules old (record { store = without k places; cursors = [] }) (map Cut places) [] (replies (history keytab_rules old (map Cut places))) ready refl (cuts_leave k places) (cuts_lawful k places)

-- ---- additions

fills_at : (k : KeytabState) (x : List ℕ) (p : ℕ) (c : Cell) → (store_of k).fault ≡ None → IsAt k.contents.cells 2 p c → is_hole (length x) c ≡ true → Puts (store_of k) (store_of (with_record_in k x p)) p
fills_at k x p (Live b) whole s large = absurd cc
fills_at k x p (Free b) whole s large =
    let len = padded_len x (length b) (leb-true (length x) (length b) large) in
    let one = replaced_cell k (record_in x) p (Free b) s in
    search (arith, len, one)

appends_at : (k : KeytabState) (x : List ℕ) → (store_of k).fault ≡ None → (store_of (with_last k x)).fault ≡ None → Puts (store_of k) (store_of (with_last k x)) (end_of (store_of k))
appends_at k x whole still = search (arith, map-append)

-- an end without a fault has none after one more record
still_whole : (e : End) → kind_of e ≡ None → kind_of (end_after e) ≡ None
still_whole e h = search arith

pub addition_puts : (k new : KeytabState) (e : EntryParts) (result : Result ℕ Refusal) → PutGives (put_result k e) k result new → IfOk result (Puts (store_of k) (store_of new))
addition_puts k new e (Ok p) a =
    let g = put_gives k e (p, new) a in
    let x = written_form k.format e in
    let whole = whole_of _ _ g.whole in
    let PutsTo : ℕ × KeytabState → Type 0 = λ y. Puts (store_of k) (store_of y.1) y.0 in
    elim g.how [
      | inl h ↦ let at = hole_is_at k.contents.cells 2 (length x) h.hole.0 h.hole.1 h.is in subst PutsTo h.gives (fills_at k x h.hole.0 h.hole.1 whole at.is_at at.large)
      | inr last ↦ subst PutsTo last (appends_at k x whole (still_whole k.contents.end whole))
    ]
addition_puts k new e (Err refusal) a = tt

-- ---- what is there afterwards

pub placed_read : (k new : KeytabState) (e : EntryParts) (p : ℕ) → IsEntry e → put_result k e ≡ Ok (p, new) → entry_at_place new p ≡ Some (read_back k.format e)
placed_read k new e p is put = added_reads k e (p, new) is put

pub addition_read : (k new : KeytabState) (e : EntryParts) (result : Result ℕ Refusal) → IsEntry e → PutGives (put_result k e) k result new → IfOk result (λ p. entry_at_place new p ≡ Some (read_back k.format e))
addition_read k new e result is a = search (arith, placed_read)

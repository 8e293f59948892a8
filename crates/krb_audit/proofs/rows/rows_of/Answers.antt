use Rattle.krb_audit.proofs.ForAnswers.{rules, List, ap, sym, subst, ◌∙◌, KtFormat, PlacedEntry, placed_entries, AreNumbered, is_some_has, CellsFrom, BeginsWith, cell_of, entries_in, entry_at, KtCell, entries_of_cells, listed_live, all_numbered, none_numbered}
use Rattle.krb_audit.proofs.rows.rows_of.Goals as goal

pub loop-place-init : goal.loop-place-init
loop-place-init g c =
    let k = c.args.keytab.now.state in
    let is = c.into_iter-place-iterator.ensures.into_iter_gives ∙ c.cells-place-items.ensures in
    record {
      numbered = none_numbered c.format-format.result (placed_entries k) _ _ (entries_of_cells k c.into_iter-place-iterator.result is) c.new.ensures.empty c.in_ok-with_capacity.ensures.items;
      format = ap (λ (x : CellsFrom). x.format) is ∙ sym c.format-format.ensures;
    }

pub loop-place-preserved-in_ok-consider : goal.loop-place-preserved-in_ok-consider
loop-place-preserved-in_ok-consider g c =
    let all = placed_entries c.args.keytab.now.state in
    let old = c.loop-place._place-iterator in
    let new = c.next.new.self in
    let at = c.in-Some._place in
    let bytes = c.in-Live.bytes.now in
    let steps = subst (λ (d : KtCell). BeginsWith old at (cell_of d) new) c.in-Live.is c.in-Some.ensures.steps in
    let h = c.loop-place.invariant in
    let e = is_some_has (entry_at old.format bytes) steps.sound.2 in
    let read = ap (λ (x : KtFormat). entry_at x bytes) (sym h.format) ∙ e.1 in
    let next = subst (λ (xs : List PlacedEntry). AreNumbered c.format-format.result all xs c.loop-place.names) (listed_live old new at bytes e.0 steps e.1) h.numbered in
    record {
      numbered = c.in_ok-consider.ensures all (entries_in new.format new.place new.contents.cells) (at, e.0) read next;
      format = steps.format ∙ h.format;
    }

pub returns : goal.returns
returns g c = search (rules, all_numbered)

use Rattle.krb_show.proofs.Cited.{List, ap, sym, subst, length, ◌∙◌, PlacedEntry, placed_entries, is_some_has, KtFormat, entries_in, entry_at, AreSoFar, RankParts, rank_of}
use Rattle.krb_keytab.specs.CellViews.{CellsFrom, BeginsWith, cell_of}
use Rattle.krb_keytab.specs.declared.cells.KtCell.{KtCell}
use Rattle.krb_audit.proofs.RankLemmas.{mapped_len}
use Rattle.krb_keytab.proofs.EntryLists.{entries_of_cells, listed_live}
use Rattle.krb_show.proofs.lines.lines_of.Goals as goal

pub loop-place-init : goal.loop-place-init
loop-place-init g c =
    let k = c.args.keytab.now.state in
    let is = c.into_iter-place-iterator.ensures.into_iter_gives ∙ c.cells-place-items.ensures in
    record {
      so_far = subst (λ (xs : List PlacedEntry). AreSoFar k xs c.in_ok-so_far.so_far) (sym (entries_of_cells k c.into_iter-place-iterator.result is)) c.in_ok-so_far.ensures;
      format = ap (λ (x : CellsFrom). x.format) is ∙ sym c.format-format.ensures;
    }

-- the next entry was added
pub loop-place-preserved-in-Continue-branch-2 : goal.loop-place-preserved-in-Continue-branch-2
loop-place-preserved-in-Continue-branch-2 g c =
    let k = c.args.keytab.now.state in
    let old = c.loop-place._place-iterator in
    let new = c.next.new.self in
    let at = c.in-Some._place in
    let bytes = c.in-Live.record.now in
    let steps = subst (λ (d : KtCell). BeginsWith old at (cell_of d) new) c.in-Live.is c.in-Some.ensures.steps in
    let h = c.loop-place.invariant in
    let e = is_some_has (entry_at old.format bytes) steps.sound.2 in
    let read = ap (λ (x : KtFormat). entry_at x bytes) (sym h.format) ∙ e.1 in
    let next = subst (λ (xs : List PlacedEntry). AreSoFar k xs c.loop-place.so_far) (listed_live old new at bytes e.0 steps e.1) h.so_far in
    record {
      so_far = c.in_ok-add.ensures k (entries_in new.format new.place new.contents.cells) (at, e.0) read next;
      format = steps.format ∙ h.format;
    }

-- there is a rank for each entry
pub returns-clause-count : goal.returns-clause-count
returns-clause-count g c =
    let all = placed_entries c.args.keytab.now.state in
    let first = c.in_ok-so_far.ensures in
    c.len-count.ensures ∙ ap (λ (ranks : List RankParts). length ranks) first.ranks ∙ mapped_len (rank_of all) first.before all

use Rattle.krb_keytab.proofs.Cited.{ap, sym, subst, ◌∙◌, KtFormat, entry_at, CellsFrom, BeginsWith, cell_of}
use Rattle.krb_keytab.specs.declared.cells.KtCell.{KtCell}
use Rattle.krb_keytab.proofs.EntryLists.{none_considered, live_considered}
use Rattle.krb_keytab.proofs.PrefixLemmas.{passed_over}
use Rattle.krb_keytab.proofs.look_up.find.consider_all_in.Goals as goal

pub loop-place-init : goal.loop-place-init
loop-place-init g c =
    let is = c.into_iter-place-iterator.ensures.into_iter_gives ∙ c.cells_in-place-items.ensures in
    record {
      found = none_considered (g.N.Name.parts c.args.query.now.name.now) c.args.query.now.kvno c.args.query.now.enctype c.args.keytab.now.state c.into_iter-place-iterator.result is;
      format = ap (λ (x : CellsFrom). x.format) is ∙ sym c.requires.format;
    }

pub loop-place-preserved-then-starts_with : goal.loop-place-preserved-then-starts_with
loop-place-preserved-then-starts_with g c =
    let steps = subst (λ (d : KtCell). BeginsWith c.loop-place.place-iterator c.in-Some.place (cell_of d) c.next.new.self) c.in-Live.is c.in-Some.ensures.steps in
    let format = c.loop-place.invariant.format in
    record {
      found = live_considered (g.N.Name.parts c.args.query.now.name.now) c.args.query.now.kvno c.args.query.now.enctype c.args.keytab.now.state _ c.next.new.self c.in-Some.place c.in-Live.bytes.now _ _ _ _ steps c.loop-place.invariant.found
          (λ xs e is so_far. c.consider.ensures xs e (ap (λ (f : KtFormat). entry_at f c.in-Live.bytes.now) (sym format) ∙ is) so_far);
      format = steps.format ∙ format;
    }

pub loop-place-preserved-else-starts_with : goal.loop-place-preserved-else-starts_with
loop-place-preserved-else-starts_with g c =
    let steps = subst (λ (d : KtCell). BeginsWith c.loop-place.place-iterator c.in-Some.place (cell_of d) c.next.new.self) c.in-Live.is c.in-Some.ensures.steps in
    let format = c.loop-place.invariant.format in
    record {
      found = live_considered (g.N.Name.parts c.args.query.now.name.now) c.args.query.now.kvno c.args.query.now.enctype c.args.keytab.now.state _ c.next.new.self c.in-Some.place c.in-Live.bytes.now _ _ _ _ steps c.loop-place.invariant.found
          (λ xs e is so_far. passed_over c.args.keytab.now.state.format (g.N.Name.parts c.args.query.now.name.now) c.args.prefix.now c.in-Live.bytes.now c.args.query.now.kvno c.args.query.now.enctype c.in-Some.place _ _ c.requires.prefix c.bytes_fit.ensures (sym c.starts_with.ensures.value ∙ c.if-starts_with.false) xs e (ap (λ (f : KtFormat). entry_at f c.in-Live.bytes.now) (sym (format ∙ c.requires.format)) ∙ is) so_far);
      format = steps.format ∙ format;
    }

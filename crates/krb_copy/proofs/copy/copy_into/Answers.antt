use Rattle.krb_copy.proofs.ForAnswers.{asked_texts, asked_as, name_in, new_in, sym, ap, subst, ◌++◌, placed_entries, entry_texts, run_start, InMemory, IsMade, err_from_is_err_and}
unfoldable use Rattle.krb_copy.specs.Copying.{copy_run}
use Rattle.krb_copy.proofs.copy.copy_into.Goals as goal

pub returns-in_err-go_over-clause-refused : goal.returns-in_err-go_over-clause-refused
unfolding copy_run
returns-in_err-go_over-clause-refused g c =
    let k = c.args.to.state in
    let more = asked_texts (name_in c.args.new.now.name) c.args.asked.now in
    let texts = c.left-left.ensures (entry_texts (placed_entries k) ++ more) c.in_ok-texts.ensures in
    let classes = c.in_ok-classes.ensures in
    let p = err_from_is_err_and c.from_residual-in_err-go_over.result c.from_residual-in_err-go_over.ensures.1 in
    rw (p.1, p.2) (c.in_err-go_over.ensures (run_start k) (record {
      keytab = ap (λ (m : InMemory). m.state) c.in-Ok.ensures.ok;
      text = c.in_ok-text.ensures.items;
      clashes = c.new.ensures.items;
      places = c.new-2.ensures.items;
      classes = classes.classes more texts;
      names = c.names.ensures c.args.asked.now c.args.new.now.kvno (classes.texts more texts);
    }))

pub returns-clause-made : goal.returns-clause-made
unfolding copy_run
returns-clause-made g c =
    let k = c.args.to.state in
    let more = asked_texts (name_in c.args.new.now.name) c.args.asked.now in
    let texts = c.left-left.ensures (entry_texts (placed_entries k) ++ more) c.in_ok-texts.ensures in
    let classes = c.in_ok-classes.ensures in
    let new = c.go_over.new.self.making in
    subst (λ (m : InMemory). IsMade (copy_run c.args.replace (asked_as (new_in c.args.new.now) c.args.asked.now) k) new.text.items new.clashes.items new.places.items m.state) (sym c.into_keytab.ensures)
    (c.in_ok-go_over.ensures (run_start k) (record {
      keytab = ap (λ (m : InMemory). m.state) c.in-Ok.ensures.ok;
      text = c.in_ok-text.ensures.items;
      clashes = c.new.ensures.items;
      places = c.new-2.ensures.items;
      classes = classes.classes more texts;
      names = c.names.ensures c.args.asked.now c.args.new.now.kvno (classes.texts more texts);
    }))

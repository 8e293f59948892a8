use Rattle.krb_copy.proofs.ForAnswers.{List, asked_as, new_in, subst, arith, PlacedEntry, run_over, drop_all, IsOnTheWay, one_met, all_met, ended, first_left}
use Rattle.krb_copy.proofs.copy.Copying.go_over.Goals as goal

pub returns-in-Err : goal.returns-in-Err
returns-in-Err g c = λ run s.
    let w = first_left _ _ _ c.args.asked.now c.asked.place-index _ _ (omega arith) c.asked-item.is (c.asked.invariant run s) in
    rw c.end.ensures (ended _ _ _ _ _ _ c.in-Err.refusal w (c.in-Err.ensures.meets w.now _ w.is_run))

pub asked-preserved : goal.asked-preserved
asked-preserved g c = λ run s.
    let w = first_left _ _ _ c.args.asked.now c.asked.place-index _ _ (omega arith) c.asked-item.is (c.asked.invariant run s) in
    one_met _ _ _ _ _ _ w (c.in_default.ensures.meets w.now _ w.is_run) c.in_default.ensures.replace

pub returns : goal.returns
returns g c = λ run s.
    let asked = c.args.asked.now in
    let new = new_in c.args.new.now in
    let replace = c.args.self.now.replace in
    let due = run_over replace (asked_as new asked) run in
    all_met due replace c.asked.self (subst (λ (ys : List PlacedEntry). IsOnTheWay due replace (asked_as new ys) c.asked.self) (drop_all c.asked.place-index asked (omega arith)) (c.asked.invariant run s))

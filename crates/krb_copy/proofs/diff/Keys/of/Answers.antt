use Rattle.krb_copy.proofs.ForAnswers.{◌≡◌, ◌∙◌, None, ap, subst, length, take, arith, take_all, take_more, List, length-replicate, AreKeys, Row, none_added, row_below, replicate}
use Rattle.std.proofs.Math.Seq.{take-nil}
use Rattle.krb_copy.proofs.diff.Keys.of.Goals as goal

pub rows-init : goal.rows-init
rows-init g c =
    let none : c.resize.new.self.items ≡ replicate c.args.len None = grind (arith, take-nil, c.in_ok-resize.ensures.items, c.new-firsts.ensures.items, c.new-firsts.ensures.len) in
    record {
      keys = λ below. none_added c.args.len _ none c.new.ensures.empty;
      len = ap length none ∙ length-replicate c.args.len None;
    }

pub rows-preserved : goal.rows-preserved
rows-preserved g c = search (arith, row_below, take, take_more)

pub returns : goal.returns
returns g c = λ below. subst (λ (rs : List Row). AreKeys rs c.rows.keys) (take_all c.rows.row-index c.args.rows.now (omega arith)) (c.rows.invariant.keys below)

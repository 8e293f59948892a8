use Rattle.krb_audit.proofs.ForAnswers.{◌≡◌, ◌∙◌, ap, arith, length, length-replicate, length-set, fold, get_or, get_or_none, replicate, take_all, at_number, one_stepped}
use Rattle.std.proofs.Math.Seq.{take-nil}
use Rattle.std.proofs.lemmas.List.Sums.{fold_more}
use Rattle.krb_audit.proofs.by_name.by_name.Goals as goal

pub rows-init : goal.rows-init
rows-init g c =
    let none : c.resize.new.self.items ≡ replicate c.numbered_len-len.result c.args.none = grind (arith, take-nil, c.in_ok-resize.ensures.items, c.new-list.ensures.items, c.new-list.ensures.len) in
    record {
      len = ap length none ∙ length-replicate c.numbered_len-len.result c.args.none;
      kept = λ i. ap (λ l. get_or l i c.args.none) none ∙ get_or_none c.numbered_len-len.result i c.args.none;
    }

pub rows-preserved : goal.rows-preserved
rows-preserved g c = search (arith, one_stepped, length-set, fold_more)

pub returns : goal.returns
returns g c = λ i. c.rows.invariant.kept i ∙ ap (fold (at_number (g.K.Kept.step c.args.kept.now) i) c.args.none) (take_all c.rows.row-index c.args.rows.now (omega arith))

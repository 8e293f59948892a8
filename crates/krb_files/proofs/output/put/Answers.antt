use Rattle.std.proofs.Common.{arith, length-take, length-drop, ◌∙◌}
use Rattle.krb_files.proofs.Prefixes.{AppendsPrefix-take, Appends-take-more, Appends-keeps}
use Rattle.krb_files.proofs.output.put.Goals as goal

pub loop-done-preserved : goal.loop-done-preserved
loop-done-preserved g c =
    let content_of = c.in-Some.ensures in
    let bound = simp (length-take, length-drop) at content_of.1 in
    record {
      within = omega arith;
      sent = Appends-take-more _ _ _ c.loop-done.done c.in-Some.n c.args.bytes.now c.loop-done.invariant.within
          c.loop-done.invariant.sent content_of.2;
      well = content_of.3 ∙ c.loop-done.invariant.well;
    }

-- a failed write keeps what was sent before, by `Appends-keeps`
pub returns-in-None-clause-prefix : goal.returns-in-None-clause-prefix
returns-in-None-clause-prefix g c =
    AppendsPrefix-take _ _ c.loop-done.done c.args.bytes.now (Appends-keeps _ _ _ _ c.loop-done.invariant.sent c.in-None.ensures.0)

use Rattle.std.proofs.Common.{arith, ◌+◌, length-take, length-drop}
use Rattle.krb_files.proofs.Prefixes.{AppendsPrefix-take, Appends-take-more, Appends-keeps}
use Rattle.krb_terminal.proofs.screen.send.Goals as goal

pub loop-done-preserved : goal.loop-done-preserved
loop-done-preserved g c =
    let bound = simp (length-take, length-drop) at c.in-Ok.ensures.bound in
    record {
      within = omega arith;
      sent = Appends-take-more _ _ _ c.loop-done.done c.in-Ok.taken c.args.bytes.now c.loop-done.invariant.within
          c.loop-done.invariant.sent c.in-Ok.ensures.bytes;
    }

pub returns-in-Ok-eq0-clause-prefix : goal.returns-in-Ok-eq0-clause-prefix
returns-in-Ok-eq0-clause-prefix g c =
    AppendsPrefix-take _ _ (c.loop-done.done + c.in-Ok-eq0.field-0) c.args.bytes.now
    (Appends-take-more _ _ _ c.loop-done.done c.in-Ok-eq0.field-0 c.args.bytes.now c.loop-done.invariant.within c.loop-done.invariant.sent c.in-Ok-eq0.ensures.bytes)

pub returns-in-Err-clause-prefix : goal.returns-in-Err-clause-prefix
returns-in-Err-clause-prefix g c =
    AppendsPrefix-take _ _ c.loop-done.done c.args.bytes.now (Appends-keeps _ _ _ _ c.loop-done.invariant.sent c.in-Err.ensures.bytes)

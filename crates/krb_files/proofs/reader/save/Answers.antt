use Rattle.std.proofs.Common.{arith, length-take, length-drop}
use Rattle.krb_files.proofs.Prefixes.{Appends-take-more}
use Rattle.krb_files.proofs.reader.save.Goals as goal

pub loop-count-preserved : goal.loop-count-preserved
loop-count-preserved g c =
    let bound = simp (length-take, length-drop) at c.in-Ok.ensures.bound in
    record {
      within = omega arith;
      sent = Appends-take-more _ _ _ c.loop-count.count c.in-Ok.taken c.args.bytes.now c.loop-count.invariant.within
          c.loop-count.invariant.sent c.in-Ok.ensures.bytes;
    }

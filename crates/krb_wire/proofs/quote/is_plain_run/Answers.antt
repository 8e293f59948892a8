use Rattle.krb_wire.proofs.Cited.{subst, arith, and_parts, take_all, All, IsPlain}
use Rattle.krb_wire.proofs.QuoteLemmas.{plain_step}
use Rattle.krb_wire.proofs.quote.is_plain_run.Goals as goal

pub loop-byte-preserved : goal.loop-byte-preserved
loop-byte-preserved c plain =
    let both = and_parts _ _ plain in
    plain_step c.args.bytes.now c.loop-byte.byte-index (omega arith) (c.loop-byte.invariant both.0) (c.is_plain-plain.ensures both.1)

pub returns : goal.returns
returns c plain = subst (All IsPlain) (take_all c.loop-byte.byte-index c.args.bytes.now (omega arith)) (c.loop-byte.invariant plain)

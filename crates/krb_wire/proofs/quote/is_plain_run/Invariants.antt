use Rattle.krb_wire.proofs.Cited.{take, IsTrue, All, IsPlain}
use Rattle.krb_wire.proofs.quote.is_plain_run.Given as goal

abbrev pub invariant-loop-byte : goal.invariant-loop-byte
invariant-loop-byte l = IsTrue l.plain → All IsPlain (take l.byte-index l.bytes)

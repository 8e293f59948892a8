use Rattle.std.proofs.Common.{inl, inr, refl, arith}
use Rattle.krb_readers.proofs.klist.overview.run_overview.Goals as goal

-- the output failed
pub returns-then-status-gt0 : goal.returns-then-status-gt0
returns-then-status-gt0 g c = record {
  between = c.print-status.new.world;
  head = c.print-status.result;
  heads = rw c.heading.ensures at c.print-status.ensures;
  lines = inl (c.if-status-gt0.true, refl, refl);
}

pub returns-in-Some : goal.returns-in-Some
returns-in-Some g c = record {
  between = c.print-status.new.world;
  head = c.print-status.result;
  heads = rw c.heading.ensures at c.print-status.ensures;
  lines = inr (omega (arith, c.if-status-gt0.false), rw c.in-Some.is c.run_over.ensures);
}

-- the clock was not read
pub returns-in-None : goal.returns-in-None
returns-in-None g c = record {
  between = c.print-status.new.world;
  head = c.print-status.result;
  heads = rw c.heading.ensures at c.print-status.ensures;
  lines = inr (omega (arith, c.if-status-gt0.false), rw c.in-None.is c.end_before.ensures);
}

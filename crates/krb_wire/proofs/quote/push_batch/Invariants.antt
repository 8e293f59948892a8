use Rattle.krb_wire.proofs.Cited.{◌≡◌, ◌≤◌, ◌+◌, take, quote}
use Rattle.krb_wire.proofs.quote.push_batch.Given as goal

abbrev pub invariant-loop-byte : goal.invariant-loop-byte
invariant-loop-byte g l = record {
  text : take l.len l.text ≡ quote (take l.byte-index l.batch);
  room : l.len ≤ l.byte-index + l.byte-index;
}

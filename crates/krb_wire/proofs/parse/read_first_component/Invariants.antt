use Rattle.krb_wire.proofs.Cited.{◌≡◌, ◌≤◌, ◌++◌, length, atoms, first_component, after_first}
use Rattle.krb_wire.proofs.parse.read_first_component.Given as goal

abbrev pub invariant-loop-atom : goal.invariant-loop-atom
invariant-loop-atom g l = record {
  bytes : l.bytes.items ++ first_component (atoms l.rest) ≡ first_component (atoms l.fn.text);
  rest : after_first (atoms l.rest) ≡ after_first (atoms l.fn.text);
  shorter : length l.rest ≤ length l.fn.text;
}

abbrev pub decreases-loop-atom : goal.decreases-loop-atom
decreases-loop-atom g l = length l.rest

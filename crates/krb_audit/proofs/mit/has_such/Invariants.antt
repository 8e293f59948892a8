use Rattle.krb_audit.proofs.Cited.{◌≡◌, List, ℕ, length, list_any, is_out}
use Rattle.krb_audit.proofs.mit.has_such.Given as goal

-- no component so far is out of range
abbrev pub invariant-loop-component : goal.invariant-loop-component
invariant-loop-component g l = list_any (λ (c : List ℕ). is_out (length c)) l.component-iterator ≡ list_any (λ (c : List ℕ). is_out (length c)) l.fn.components

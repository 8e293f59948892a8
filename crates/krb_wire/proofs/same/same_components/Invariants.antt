use Rattle.std.proofs.Common.{◌≡◌, List, ℕ}
use Rattle.krb_wire.proofs.same.same_components.Given as goal

abbrev pub invariant-loop-component : goal.invariant-loop-component
invariant-loop-component g l = record {
  there : ◌≡◌ {A = List (List ℕ)} l.component-iterator l.other → ◌≡◌ {A = List (List ℕ)} l.fn.one l.fn.other;
  back : ◌≡◌ {A = List (List ℕ)} l.fn.one l.fn.other → ◌≡◌ {A = List (List ℕ)} l.component-iterator l.other;
}

-- Lower trees have too few leaves.
use Rattle.std.proofs.Common.{◌≡◌, ◌<◌, ◌≤◌, ◌-◌, ◌*◌, ◌^◌, ℕ}
use Rattle.krb_keytab.proofs.indexed.tree.height_for.Given as goal

abbrev pub invariant-loop-leaves : goal.invariant-loop-leaves
invariant-loop-leaves l = record {
  leaves : l.leaves ≡ 2 ^ l.levels;
  low : l.levels ≤ 30;
  few : 0 < l.count → l.leaves < 2 * l.count;
  least : (lower : ℕ) → lower < l.levels → 2 ^ lower < l.count;
}

abbrev pub decreases-loop-leaves : goal.decreases-loop-leaves
decreases-loop-leaves l = 30 - l.levels

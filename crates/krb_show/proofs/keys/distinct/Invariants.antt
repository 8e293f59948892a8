use Rattle.krb_show.proofs.Cited.{◌≡◌, ℕ, [], drop, fold, list_any, contains, nat_cmp, ◌==◌, with_number}
use Rattle.krb_show.proofs.keys.distinct.Given as goal

-- each number so far, with those to come, makes each of all; and the set has those so far
abbrev pub invariant-numbers : goal.invariant-numbers
invariant-numbers g l = record {
  each : fold with_number l.each.items (drop l.number-index l.numbers) ≡ fold with_number [] l.numbers;
  seen : (n : ℕ) → contains nat_cmp l.seen n ≡ list_any (λ m. m == n) l.each.items;
}

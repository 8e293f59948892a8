use Rattle.krb_keytab.proofs.Cited.{◌≡◌, ◌*◌, ◌+◌, ◌^◌, ℕ, arith, ap, ◌∙◌, pow-suc, nat_tests}
use Rattle.krb_keytab.proofs.GrownLemmas.{stays_grown, doubles_grown, grown_height}
use Rattle.krb_keytab.proofs.indexed.index.add_leaf.Goals as goal

pub returns-then-count-leaves : goal.returns-then-count-leaves
returns-then-count-leaves g c = record { grown = stays_grown c.args.tree.now c.args.count c.requires.height (omega (arith, c.leaves.ensures.power)) }

pub double-requires-clause-low : goal.double-requires-clause-low
double-requires-clause-low g c = grind (arith, nat_tests)

pub double-requires-clause-room : goal.double-requires-clause-room
double-requires-clause-room g c =
    let h = c.args.tree.now.height in
    let full : c.args.count ≡ 2 ^ h = omega (arith, c.leaves.ensures.power, c.requires.height.0) in
    let p : 2 ^ (h + 1) ≡ 2 ^ h * 2 = ap (λ (m : ℕ). 2 ^ m) (omega arith) ∙ pow-suc 2 h in
    omega (arith, p, c.requires.room (h + 1) (grown_height c.args.count h full), c.leaves.ensures.leaves, c.leaves.ensures.power)

pub returns : goal.returns
returns g c =
    let full : c.args.count ≡ 2 ^ c.args.tree.now.height = omega (arith, c.leaves.ensures.power, c.requires.height.0) in
    record { grown = doubles_grown c.args.tree.now c.double.new.self c.args.count full (omega (arith, c.leaves.ensures.leaves, c.leaves.ensures.power)) c.double.ensures.sizes c.double.ensures.height }

-- The descent from the root ends at the first leaf that is large enough.
use Rattle.krb_keytab.proofs.Cited.{◌≡◌, ℕ, ◌-◌, ◌/◌, ◌^◌, length, ap, arith, subst, sym, ◌∙◌, nat_tests}
use Rattle.std.specs.Prelude.{Some}
use Rattle.krb_keytab.proofs.NodeLemmas.{has_children, descends_on, descends_to, none_fits, Descends}
use Rattle.krb_keytab.proofs.indexed.nodes.first_leaf.Goals as goal

pub returns-then-look-need-clause-first : goal.returns-then-look-need-clause-first
returns-then-look-need-clause-first c = sym (none_fits _ _ _ c.requires (omega (arith, c.look.ensures.value)))

pub levels-init : goal.levels-init
levels-init c = grind (arith, nat_tests)

pub child_with-node-requires-clause-there : goal.child_with-node-requires-clause-there
child_with-node-requires-clause-there c =
    let inside = has_children _ _ _ _ _ c.requires c.levels.invariant.is_at c.levels-test.true in
    omega (arith, inside.1, c.requires.len)

pub levels-preserved : goal.levels-preserved
levels-preserved c = record {
  is_at = descends_on _ _ _ _ _ _ c.requires c.levels.invariant.is_at c.levels-test.true c.child_with-node.ensures.value;
  looks = omega arith;
}

pub returns-clause-first : goal.returns-clause-first
returns-clause-first c =
    let at_end : c.levels._level ≡ c.args.height = omega arith in
    let is_at = subst (λ (n : ℕ). Descends c.args.height c.args.nodes.now c.args.need n c.levels.node) at_end c.levels.invariant.is_at in
    let half : length c.args.nodes.now / 2 ≡ 2 ^ c.args.height = omega (arith, c.requires.len) in
    ap (λ (n : ℕ). Some (c.levels.node - n)) half ∙ sym (descends_to _ _ _ _ c.requires is_at)

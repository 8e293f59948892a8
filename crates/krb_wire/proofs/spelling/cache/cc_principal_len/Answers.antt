use Rattle.krb_wire.proofs.Cited.{ℕ, List, ◌<◌, ◌^◌, length, ap, sym, subst, arith, flat_map, AllByRecursion, Big, data32, IsLong, cc_principal}
use Rattle.krb_wire.proofs.NamesCompared.{no_cc_len, some_cc_len, many_long}
use Rattle.krb_wire.proofs.spelling.cache.cc_principal_len.Goals as goal

pub returns-then-component-clause-some : goal.returns-then-component-clause-some
returns-then-component-clause-some g c =
    no_cc_len (g.N.Name.parts c.args.name.now) (λ l lt.
    let first = (subst (AllByRecursion IsLong) c.in-Some.ensures.steps (c.loop-component.invariant.long.0 l.components)).0 in
    absurd (omega (arith, first, c.if-component.true)))

pub returns-clause-some : goal.returns-clause-some
returns-clause-some g c =
    let p = g.N.Name.parts c.args.name.now in
    let none = c.in-None.ensures.steps.0 in
    some_cc_len p (record {
      count = omega (arith, c.if-count.false, c.count.ensures);
      realm = omega (arith, c.if-realm.false, ap length c.realm-realm.ensures);
      components = c.loop-component.invariant.long.1 (subst (AllByRecursion IsLong) (sym none) tt);
    }) (let lt : length (cc_principal p) < 2 ^ 64 = omega (arith, c.loop-component.invariant.len, c.loop-component.invariant.small, ap (λ (cs : List (List ℕ)). length (flat_map (data32 Big) cs)) none) in lt)

pub returns-then-count-clause-none : goal.returns-then-count-clause-none
returns-then-count-clause-none g c =
    many_long (g.N.Name.parts c.args.name.now) (omega (arith, c.if-count.true, c.count.ensures))

use Rattle.krb_wire.proofs.Cited.{rules, ◌≡◌, ◌<◌, ◌^◌, ◌+◌, ◌++◌, ◌∙◌, ℕ, List, length, ap, sym, subst, length-append, arith, w16, flat_map, AllByRecursion, flat_map-cons, digits, data16, order_of, kt_principal, IsShort, count_field, name_type_field}
use Rattle.krb_wire.proofs.Fields.{wide16}
use Rattle.krb_wire.proofs.NamesCompared.{lengths_fit, fits_not}
use Rattle.krb_wire.proofs.spelling.keytab.kt_principal_len.Goals as goal

pub returns-then-component-gt65535-clause-some : goal.returns-then-component-gt65535-clause-some
returns-then-component-gt65535-clause-some g c =
    fits_not c.args.format (g.N.Name.parts c.args.name.now) (λ l.
    let left = subst (AllByRecursion IsShort) c.in-Some.ensures.steps (c.loop-component.invariant.short.0 l.components) in
    absurd (omega (arith, left.0, c.if-component-gt65535.true)))

pub loop-component-init : goal.loop-component-init
loop-component-init g c =
    let f = c.args.format in
    let p = g.N.Name.parts c.args.name.now in
    let o = order_of f in
    let name_type = name_type_field f p.name_type in
    let own = c.name_type_len.ensures.len p.name_type in
    let all = flat_map (data16 o) p.components in
    let same = ap (λ (cs : List (List ℕ)). length (flat_map (data16 o) cs)) (c.into_iter-component-iterator.ensures.into_iter_gives ∙ c.components-component-items.ensures) in
    let field = digits o w16 (count_field f (length p.components)) in
    let len = digits o w16 (length p.realm) in
    record {
      len = omega (arith, own, same, ap length c.realm-realm.ensures, length-append field (data16 o p.realm ++ (all ++ name_type)), length-append (data16 o p.realm) (all ++ name_type), length-append all name_type, length-append len p.realm, (wide16 o).len (count_field f (length p.components)), (wide16 o).len (length p.realm));
      small = search rules;
      short = search rules;
    }

pub loop-component-preserved : goal.loop-component-preserved
loop-component-preserved g c = record {
  len =
      let o = order_of c.args.format in
      let component = c.in-Some.component.now in
      let others = flat_map (data16 o) c.next.new.self in
      let cut : flat_map (data16 o) c.loop-component.component-iterator ≡ data16 o component ++ others = ap (flat_map (data16 o)) c.in-Some.ensures.steps ∙ flat_map-cons (data16 o) component c.next.new.self in
      let was : c.loop-component.len + length (flat_map (data16 o) c.loop-component.component-iterator) ≡ length (kt_principal c.args.format (g.N.Name.parts c.args.name.now)) = c.loop-component.invariant.len in
      omega (arith, was, ap length cut, length-append (data16 o component) others, length-append (digits o w16 (length component)) component, (wide16 o).len (length component));
  small =
      omega (arith, c.loop-component.invariant.small, c.if-component-gt65535.false, ap length c.in-Some.ensures.steps);
  short = (
    λ all. (subst (AllByRecursion IsShort) c.in-Some.ensures.steps (c.loop-component.invariant.short.0 all)).1,
    λ rest. c.loop-component.invariant.short.1 (subst (AllByRecursion IsShort) (sym c.in-Some.ensures.steps) (let short = c.if-component-gt65535.false in omega (arith, short), rest)),
  );
}

pub returns-clause-some : goal.returns-clause-some
returns-clause-some g c =
    let p = g.N.Name.parts c.args.name.now in
    let count : count_field c.args.format (length p.components) < 2 ^ 16 = search rules in
    sym (lengths_fit c.args.format p (record {
      count = count;
      realm = omega (arith, c.if-realm-gt65535.false, ap length c.realm-realm.ensures);
      components = c.loop-component.invariant.short.1 (subst (AllByRecursion IsShort) (sym c.in-None.ensures.steps.0) tt);
    }))

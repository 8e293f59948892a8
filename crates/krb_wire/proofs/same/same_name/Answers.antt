use Rattle.std.proofs.Common.{rules, ◌≡◌, ◌∙◌, sym}
use Rattle.krb_wire.proofs.NamesCompared.{same_name_is}
use Rattle.krb_wire.proofs.same.same_name.Goals as goal

pub returns-then-eq : goal.returns-then-eq
returns-then-eq g c =
    let p = g.N.Name.parts c.args.one.now in
    let q = g.M.Name.parts c.args.other.now in
    let realm : p.realm ≡ q.realm = search rules in
    let one = c.components.ensures in
    let other = c.components-then-eq.ensures in
    same_name_is p q c.same_components.result (λ e. (realm, sym one ∙ c.same_components.ensures.0 e ∙ other)) (λ r e. c.same_components.ensures.1 (one ∙ e ∙ sym other))

use Rattle.krb_wire.proofs.Cited.{◌∙◌, sym, ap, append-nil, List, ℕ, Some, None, Bor, option_map, items_of, atoms}
use Rattle.krb_wire.proofs.AtomLemmas.{components_step}
use Rattle.krb_wire.proofs.parse.read_components.Goals as goal

pub returns-in_default : goal.returns-in_default
returns-in_default g c =
    let next = sym (ap (option_map (λ (t : Bor (List ℕ)). atoms t.now)) c.in_default.is) ∙ c.in_ok-component.ensures.rest in
    sym (append-nil (items_of c.push.new.self.items))
    ∙ components_step c.loop-all.all.items c.push.new.self.items c.in_ok-component.component (atoms c.loop-all.rest.now) None _ c.in_ok-push.ensures.items c.in_ok-component.ensures.bytes next c.loop-all.invariant

pub loop-all-preserved : goal.loop-all-preserved
loop-all-preserved g c =
    let next = sym (ap (option_map (λ (t : Bor (List ℕ)). atoms t.now)) c.in-Some.is) ∙ c.in_ok-component.ensures.rest in
    components_step c.loop-all.all.items c.push.new.self.items c.in_ok-component.component (atoms c.loop-all.rest.now) (Some (atoms c.in-Some.next.now)) _ c.in_ok-push.ensures.items c.in_ok-component.ensures.bytes next c.loop-all.invariant

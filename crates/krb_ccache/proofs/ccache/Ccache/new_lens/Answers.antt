use Rattle.krb_ccache.proofs.Cited.{ap, arith, InMemory}
use Rattle.krb_ccache.proofs.Rewrites.{is_new_image}
use Rattle.krb_ccache.proofs.ccache.Ccache.new_lens.Goals as goal

pub returns-in_err-room-clause-none : goal.returns-in_err-room-clause-none
returns-in_err-room-clause-none g c =
    let s = is_new_image c.self.inside.layout c.self.inside.image.items c.deref.result.now c.tail-cells.result.now c.default_principal.result c.offset.result c.args.self.now.state (ap (λ (m : InMemory). m.state) c.self.view_is) c.deref.ensures.value c.tail-cells.ensures c.default_principal.ensures c.offset.ensures in
    rw c.from_residual-in_err-room.ensures (omega (arith, s.total, s.limit, c.in_ok-front.ensures.some, c.in_err-room.ensures.none))

pub returns-clause-len : goal.returns-clause-len
returns-clause-len g c =
    let s = is_new_image c.self.inside.layout c.self.inside.image.items c.deref.result.now c.tail-cells.result.now c.default_principal.result c.offset.result c.args.self.now.state (ap (λ (m : InMemory). m.state) c.self.view_is) c.deref.ensures.value c.tail-cells.ensures c.default_principal.ensures c.offset.ensures in
    omega (arith, s.total, c.in_ok-front.ensures.some, c.in_ok-front.ensures.within, c.in_ok-room.ensures.some)

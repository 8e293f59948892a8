use Rattle.krb_ccache.proofs.Cited.{arith, sym, ap, subst, FitsCc, IsBytes, InMemory}
use Rattle.krb_ccache.proofs.Rewrites.{readable_by, is_new_image, ok_same}
use Rattle.krb_ccache.proofs.ccache.Ccache.new_image.Goals as goal

pub build_image-requires-clause-fits : goal.build_image-requires-clause-fits
build_image-requires-clause-fits g c = subst FitsCc (sym c.default_principal.ensures) (readable_by c.self.inside.layout c.self.inside.image.items c.args.self.now.state (subst IsBytes c.deref.ensures.value c.bytes_fit.ensures) c.self.invariant.0 (ap (λ (m : InMemory). m.state) c.self.view_is)).principal

pub build_image-requires-clause-len : goal.build_image-requires-clause-len
build_image-requires-clause-len g c = search (arith, is_new_image)

pub returns : goal.returns
returns g c = search (arith, is_new_image, ok_same)

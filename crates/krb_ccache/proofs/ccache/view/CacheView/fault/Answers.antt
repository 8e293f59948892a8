use Rattle.krb_ccache.proofs.Cited.{ap, ◌∙◌, CacheState, fault_kind}
use Rattle.krb_ccache.proofs.ImageLemmas.{image_parts, no_fault, some_fault}
use Rattle.krb_ccache.proofs.ccache.view.CacheView.fault.Goals as goal

pub returns-then-self : goal.returns-then-self
returns-then-self c =
    no_fault _ _ (image_parts _ _ c.bytes_fit.ensures c.self.invariant) c.if-self.true ∙ ap (λ (k : CacheState). fault_kind k.contents.end) c.self.view_is

pub returns : goal.returns
returns c =
    some_fault _ _ (image_parts _ _ c.bytes_fit.ensures c.self.invariant) c.if-self.false ∙ ap (λ (k : CacheState). fault_kind k.contents.end) c.self.view_is

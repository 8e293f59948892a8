use Rattle.krb_ccache.proofs.Cited.{length, ap, ◌∙◌, arith, IsBytes, V4, header, new_header, InMemory, subst}
use Rattle.krb_ccache.proofs.Rewrites.{rewrite_fits, rewrites_store, new_image_held}
use Rattle.krb_ccache.proofs.ccache.Ccache.new_cache.Goals as goal

pub invariant_of-result : goal.invariant_of-result
invariant_of-result g c =
    let held = new_image_held _ _ _ c.args.self.now.state c.header_len.result c.in-Some.first c.in-Some.len (subst IsBytes c.deref.ensures.value c.bytes_fit.ensures) c.self.invariant.0 (ap (λ (m : InMemory). m.state) c.self.view_is) (subst IsBytes c.deref-2.ensures.value c.bytes_fit-2.ensures) c.in_ok-image.ensures
    (c.header_len.ensures ∙ ap (λ o. length (header V4 (new_header o))) c.offset.ensures) c.in-Some.ensures.first c.in-Some.ensures.len c.in-Some.ensures.within in
    (held.kept, tt)

pub returns-clause-ok : goal.returns-clause-ok
returns-clause-ok g c =
    (new_image_held _ _ _ c.args.self.now.state c.header_len.result c.in-Some.first c.in-Some.len (subst IsBytes c.deref.ensures.value c.bytes_fit.ensures) c.self.invariant.0 (ap (λ (m : InMemory). m.state) c.self.view_is) (subst IsBytes c.deref-2.ensures.value c.bytes_fit-2.ensures) c.in_ok-image.ensures
    (c.header_len.ensures ∙ ap (λ o. length (header V4 (new_header o))) c.offset.ensures) c.in-Some.ensures.first c.in-Some.ensures.len c.in-Some.ensures.within).state

pub returns-clause-gives : goal.returns-clause-gives
returns-clause-gives g c = search (arith, rewrite_fits)

pub returns-clause-rewrites : goal.returns-clause-rewrites
returns-clause-rewrites g c = search (arith, rewrites_store)

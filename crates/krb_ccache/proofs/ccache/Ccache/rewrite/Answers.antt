use Rattle.krb_ccache.proofs.Cited.{rules, ◌∙◌, map, sym, ap, subst, AllByRecursion, IsBytes, Store, IsPlace, CacheState, store_of, InMemory, Rewrites, carry}
use Rattle.krb_ccache.proofs.Rewrites.{old_store}
use Rattle.krb_ccache.proofs.ccache.Ccache.rewrite.Goals as goal

pub carry_to-requires : goal.carry_to-requires
carry_to-requires g c =
    let o = old_store _ _ c.deref_mut.result.now c.args.self.now.state c.deref_mut.ensures.value (subst IsBytes c.deref.ensures.value c.bytes_fit.ensures) c.self.invariant.0 (ap (λ (m : InMemory). m.state) c.self.view_is) c.in_ok-new.ensures.rewrites.whole in
    let new = c.cells.ensures ∙ ap (λ (k : CacheState). store_of k) (c.view.ensures ∙ c.in_ok-new.ensures.ok) in
    record {
      ahead = o.ahead;
      within = search rules;
      cells = o.are;
      rewrites = subst (λ (s : Store). Rewrites s c.cells.result) (sym o.store) (subst (λ (s : Store). Rewrites (store_of c.args.self.now.state) s) (sym new) c.in_ok-new.ensures.rewrites);
      places = subst (λ (s : Store). AllByRecursion (IsPlace s) c.args.cursors.now) (sym o.store) c.requires;
    }

pub returns-clause-carries : goal.returns-clause-carries
returns-clause-carries g c =
    let o = (old_store _ _ c.deref_mut.result.now c.args.self.now.state c.deref_mut.ensures.value (subst IsBytes c.deref.ensures.value c.bytes_fit.ensures) c.self.invariant.0 (ap (λ (m : InMemory). m.state) c.self.view_is) c.in_ok-new.ensures.rewrites.whole) in
    let new = c.cells.ensures ∙ ap (λ (k : CacheState). store_of k) (c.view.ensures ∙ ap (λ (m : InMemory). m.state) (sym c.drop.view_is)) in
    c.carry_to.ensures ∙ ap (λ (s : Store). map (carry s c.cells.result) c.args.cursors.now) o.store
    ∙ ap (λ (s : Store). map (carry (store_of c.args.self.now.state) s) c.args.cursors.now) new

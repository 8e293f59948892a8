use Rattle.krb_keytab.proofs.Cited.{◌∙◌, map, None, refl, sym, ap, subst, AllByRecursion, IsBytes, Store, IsPlace, carry, Rewrites, InMemory, store_of}
use Rattle.krb_keytab.proofs.Stores.{state_is}
use Rattle.krb_keytab.proofs.ImageStores.{all_held}
use Rattle.krb_keytab.proofs.keytab.Keytab.replace.Goals as goal

pub carry_to-requires : goal.carry_to-requires
carry_to-requires g c =
    let o = all_held _ _ _ c.deref_mut.result.now _ _ c.args.self.now.state c.deref_mut.ensures.value (subst IsBytes c.deref.ensures.value c.bytes_fit.ensures) c.self.invariant.0 c.self.invariant.1 (state_is c.self.view_is) refl in
    let store = o.store None (sym c.requires.rewrites.whole) in
    record {
      ahead = o.ahead;
      within = o.within;
      cells = o.are;
      rewrites = subst (λ (s : Store). Rewrites s c.store.result) (sym store) (subst (λ (s : Store). Rewrites (store_of c.args.self.now.state) s) (sym c.store.ensures) c.requires.rewrites);
      places = subst (λ (s : Store). AllByRecursion (IsPlace s) c.args.cursors.now) (sym store) c.requires.places;
    }

pub returns-clause-carries : goal.returns-clause-carries
returns-clause-carries g c =
    let o = all_held _ _ _ c.deref_mut.result.now _ _ c.args.self.now.state c.deref_mut.ensures.value (subst IsBytes c.deref.ensures.value c.bytes_fit.ensures) c.self.invariant.0 c.self.invariant.1 (state_is c.self.view_is) refl in
    let store = o.store None (sym c.requires.rewrites.whole) in
    c.carry_to.ensures ∙ ap (λ (s : Store). map (carry s c.store.result) c.args.cursors.now) store
    ∙ ap (λ (s : Store). map (carry (store_of c.args.self.now.state) s) c.args.cursors.now) (c.store.ensures ∙ ap (λ (k : InMemory). store_of k.state) (sym c.drop.view_is))

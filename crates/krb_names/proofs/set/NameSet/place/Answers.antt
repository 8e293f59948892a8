use Rattle.krb_names.proofs.Cited.{◌≡◌, ◌∙◌, sym, ap, subst, map, HashedName, AreHashed}
use Rattle.krb_names.proofs.Places.{alone, found}
use Rattle.krb_names.proofs.set.NameSet.place.Goals as goal

pub returns : goal.returns
returns g c =
    let ks = c.deref.result.now in
    let x : HashedName = (c.hash_of.result, c.args.name) in
    let are = subst AreHashed (sym c.deref.ensures.value) c.self.invariant in
    let names : c.args.self.now ≡ map (λ (y : HashedName). y.1.now) ks = sym c.self.view_is ∙ ap (map (λ (y : HashedName). y.1.now)) (sym c.deref.ensures.value) in
    let e = c.binary_search.ensures in
    rw (names, c.ok.ensures.value) (record {
      alone = alone ks x c.binary_search.result are c.hash_of.ensures e.bound e.position;
      found = found ks x c.binary_search.result are c.hash_of.ensures e.bound e.position;
    })

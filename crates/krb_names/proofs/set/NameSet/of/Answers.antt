use Rattle.krb_names.proofs.Cited.{◌≡◌, ◌∙◌, sym, ap, List, ℕ, map, is_among, vec_items, HashedName, hash_of, take_all, IsStrictlySortedBy-dedup, All-permutation}
use Rattle.std.proofs.lemmas.List.Filters.{dedup_is}
use Rattle.krb_names.proofs.NameOrder.{names_tie, names_total}
use Rattle.krb_names.proofs.Places.{all_dedup, same_names}
use Rattle.krb_names.proofs.set.NameSet.of.Goals as goal

pub invariant_of-result : goal.invariant_of-result
invariant_of-result g c =
    let hashes = All-permutation (λ (x : HashedName). x.0 ≡ hash_of x.1.now) _ _ c.sort_unstable.ensures.permutation c.names.invariant.hashes in
    rw (dedup_is _ _ _ c.dedup.ensures.filtered) (IsStrictlySortedBy-dedup names_total names_tie _ c.sort_unstable.ensures.sorted, all_dedup (λ (x : HashedName). x.0 ≡ hash_of x.1.now) _ hashes)

pub returns : goal.returns
returns g c = λ name.
    let all = take_all c.names.name-index c.args.names.now c.names-test.false in
    ap (λ (ts : List (List ℕ)). is_among ts name) (sym (c.names.invariant.names ∙ ap (map vec_items) all))
    ∙ same_names name c.names.hashed.items _ c.sort_unstable.ensures.permutation
    ∙ ap (λ (ks : List HashedName). is_among (map (λ x. x.1.now) ks) name) (sym (dedup_is _ _ _ c.dedup.ensures.filtered))

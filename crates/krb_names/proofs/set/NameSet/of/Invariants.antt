use Rattle.krb_names.proofs.Cited.{◌≡◌, take, map, All, vec_items, hash_of}
use Rattle.krb_names.proofs.set.NameSet.of.Given as goal

-- the names so far, each after its hash
abbrev pub invariant-names : goal.invariant-names
invariant-names g l = record {
  names : map (λ x. x.1.now) l.hashed.items ≡ map vec_items (take l.name-index l.names);
  hashes : All (λ x. x.0 ≡ hash_of x.1.now) l.hashed.items;
}

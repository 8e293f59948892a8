use Rattle.krb_match.proofs.Cited.{◌≡◌, ◌++◌, map, vec_items, placed_entries, bare_key, folded_key}
use Rattle.krb_match.proofs.names.near_keys.Given as goal

-- the keys so far, with those to come, are all
abbrev pub invariant-entries : goal.invariant-entries
invariant-entries g l = record {
  folded : map vec_items l.folded.items ++ map (λ x. folded_key x.1.principal) l._place-iterator ≡ map (λ x. folded_key x.1.principal) (placed_entries l.keytab.state);
  bare : map vec_items l.bare.items ++ map (λ x. bare_key x.1.principal) l._place-iterator ≡ map (λ x. bare_key x.1.principal) (placed_entries l.keytab.state);
}

use Rattle.krb_match.proofs.Cited.{◌≡◌, ◌++◌, map, vec_items, placed_entries, entry_key}
use Rattle.krb_match.proofs.names.exact_keys.Given as goal

-- the keys so far, with those to come, are all
abbrev pub invariant-entries : goal.invariant-entries
invariant-entries g l = map vec_items l.keys.items ++ map entry_key l._place-iterator ≡ map entry_key (placed_entries l.keytab.state)

use Rattle.krb_match.proofs.Cited.{◌≡◌, ◌++◌, List, Parts, PlacedEntry, placed_entries, AreNoted, has_name, is_among, name_key}
use Rattle.krb_match.proofs.keys.Keys.of.Given as goal

-- the entries so far are noted
abbrev pub invariant-entries : goal.invariant-entries
invariant-entries g l = record {
  before : List PlacedEntry;
  parts : before ++ l.place-iterator ≡ placed_entries l.keytab.state;
  names : (p : Parts) → is_among l.keys.names (name_key p) ≡ has_name p (placed_entries l.keytab.state);
  noted : AreNoted l.keys.names before l.keys.groups;
}

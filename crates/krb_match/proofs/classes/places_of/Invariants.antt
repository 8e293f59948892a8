use Rattle.krb_match.proofs.Cited.{◌≡◌, ◌++◌, List, map, vec_items, PlacedEntry, placed_entries, ArePlaced, entry_key}
use Rattle.krb_match.proofs.classes.places_of.Given as goal

-- the entries so far have their places, and the other keys are those of the entries to come
abbrev pub invariant-entries : goal.invariant-entries
invariant-entries g l = record {
  before : List PlacedEntry;
  parts : before ++ l.place-iterator ≡ placed_entries l.keytab.state;
  keys : map vec_items l.rest ≡ map entry_key l.place-iterator;
  placed : ArePlaced before l.places;
}

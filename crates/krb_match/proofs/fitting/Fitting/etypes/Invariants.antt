use Rattle.krb_match.proofs.Cited.{◌≡◌, ◌-◌, List, length, PlacedEntry, AreUnited, etypes_of, etypes_from}
use Rattle.krb_match.proofs.fitting.Fitting.etypes.Given as goal

-- one is found each turn; those found, and those of the turns to come, are all
abbrev pub invariant-turns : goal.invariant-turns
invariant-turns l = record {
  turn : length l.found.items ≡ l.counter;
  all : (xs : List PlacedEntry) → AreUnited xs l.self → etypes_from (9 - l.counter) l.found.items xs ≡ etypes_of xs;
}

use Rattle.std.proofs.Common.{◌≡◌, ◌++◌, map, filter}
use Rattle.rotate_keys.specs.Rotation.{is_before, places_before}
use Rattle.rotate_keys.proofs.rotation.places_before.Given as goal

-- the places so far, and those of the entries that are still to come
abbrev pub invariant-entries : goal.invariant-entries
invariant-entries g l = l.places.items ++ map (λ x. x.0) (filter (is_before (g.N.Name.parts l.name) l.kvno) l.place-iterator) ≡ places_before (g.N.Name.parts l.name) l.kvno l.keytab.state

use Rattle.krb_copy.proofs.Cited.{◌≡◌, ◌++◌, take, drop, flat_map, removed_line, without}
use Rattle.krb_copy.proofs.making.Making.remove.Given as goal

-- removing at the places that are left gives what removing at all gives, and the others have their lines
abbrev pub invariant-places : goal.invariant-places
invariant-places g l = record {
  left : without l.self.keytab.state (drop l.place-index l.places) ≡ without l.fn.self.keytab.state l.places;
  text : l.self.text.items ≡ l.fn.self.text.items ++ flat_map (λ p. removed_line (p, l.entry)) (take l.place-index l.places);
  clash : l.self.clashes.items ≡ l.fn.self.clashes.items;
  places : l.self.places.items ≡ l.fn.self.places.items;
}

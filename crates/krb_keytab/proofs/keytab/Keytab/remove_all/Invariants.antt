use Rattle.krb_keytab.proofs.Cited.{◌≡◌, drop, IsPlace, store_of, without}
use Rattle.krb_keytab.proofs.keytab.Keytab.remove_all.Given as goal

-- removing at the places that are left gives what removing at all places gives
abbrev pub invariant-places : goal.invariant-places
invariant-places g l = record {
  left : without l.self.state (drop l.place-index l.places) ≡ without l.fn.self.state l.places;
  from : IsPlace (store_of l.self.state) l.from;
  room : l.self.room ≡ l.fn.self.room;
}

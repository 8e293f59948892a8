use Rattle.krb_keytab.proofs.Cited.{◌≡◌}
use Rattle.krb_keytab.proofs.look_up.find.consider_all_in.Given as goal
use Rattle.krb_keytab.proofs.EntryLists.{IsFoundUpTo}

-- the entries so far were considered
abbrev pub invariant-loop-place : goal.invariant-loop-place
invariant-loop-place g l = record {
  found : IsFoundUpTo (g.N.Name.parts l.query.name.now) l.query.kvno l.query.enctype l.keytab.state l.place-iterator l.look_up.named l.look_up.best;
  format : l.place-iterator.format ≡ l.format;
}

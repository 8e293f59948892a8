use Rattle.krb_audit.proofs.ForAnswers.{◌≡◌, placed_entries, AreVersions, is_named, IsOnTheWay}
use Rattle.krb_audit.specs.Before.{AreDoubles}
use Rattle.krb_audit.specs.Selection.{is_selected}
use Rattle.krb_audit.proofs.selection.take_selected.Given as goal

-- the selected ones of the entries so far were taken
abbrev pub invariant-entries : goal.invariant-entries
invariant-entries g l = record {
  names : l.names ≡ l.selection.names;
  versions : AreVersions l.selection.kvno l.fn.now (placed_entries l.keytab.state) l.place-iterator l.versions;
  taken : IsOnTheWay (g.T.Taker.HasTaken l.label) (λ seen. AreDoubles l.selection.only_same (placed_entries l.keytab.state) seen l.place-iterator l.doubles) (is_selected l.selection l.fn.now (placed_entries l.keytab.state)) (λ x. is_named l.selection x.1) (placed_entries l.keytab.state) l.place-iterator l.is_any_named l.taker;
}

use Rattle.krb_json.proofs.ForAnswers.{map, entry_value, entry_values, AddsSome}
use Rattle.krb_json.proofs.keytab.send_entries.Given as goal

abbrev pub invariant-entries : goal.invariant-entries
invariant-entries g l = AddsSome l.fn.out l.out l.fn.elements.gathered.items l.fn.elements.is_after l.elements (map (entry_value l.shows_keys) l.place-iterator) (entry_values l.shows_keys l.keytab.state)

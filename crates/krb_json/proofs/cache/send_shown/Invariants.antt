use Rattle.krb_json.proofs.ForAnswers.{placed_credentials, shown_values, AddsSome}
use Rattle.krb_json.proofs.cache.send_shown.Given as goal

abbrev pub invariant-credentials : goal.invariant-credentials
invariant-credentials g l = AddsSome l.fn.out l.out l.fn.elements.gathered.items l.fn.elements.is_after l.elements (shown_values l.shown l.place-iterator) (shown_values l.shown (placed_credentials l.cache.state))

use Rattle.krb_keytab_text.proofs.Cited.{Err, subst, err_from_is_err_and, EntryParts, Reads, Addition, entry_of}
use Rattle.krb_keytab_text.proofs.Additions.{name_refused}
use Rattle.krb_keytab_text.proofs.script.event_line.entry_of.Goals as goal

pub returns-in_err-principal : goal.returns-in_err-principal
returns-in_err-principal g c =
    let p = err_from_is_err_and c.from_residual-in_err-principal.result c.from_residual-in_err-principal.ensures.1 in
    let w = c.words.inside in
    let a : Addition = record { kvno = w.kvno.now; etype = w.etype.now; time = w.time.now; key = w.key.now; name = w.name.now } in
    let e = c.in_err-principal.field-0.0 in
    let refused = name_refused a c.digits_of-digits.result.now c.in_ok-kvno.kvno c.in_ok-enctype.enctype c.in_ok-timestamp.timestamp e c.in_ok-kvno.ensures c.in_ok-enctype.ensures c.in_ok-timestamp.ensures c.digits_of-digits.ensures c.if-not-is_key.ensures c.in_err-principal.ensures in
    let Q : Addition → Type 0 = λ x. Reads {T = EntryParts} (λ y. y) (entry_of x) (Err e) in
    rw (p.1, p.2) (subst Q c.words.view_is refused)

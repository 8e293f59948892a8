use Rattle.krb_json.proofs.ForAnswers.{err_from_is_err_and, on_ok_weaker, gathers_prints, gathers_fails, prints_memory, keytab_is_read, keytab_text}
use Rattle.krb_json.proofs.keytab.keytab_json.Goals as goal

pub returns-in_err-begin-clause-prints : goal.returns-in_err-begin-clause-prints
returns-in_err-begin-clause-prints g c = prints_memory _ _ _ c.requires c.from_residual-in_err-begin.ensures.1

pub returns-in_err-send_entries-clause-prints : goal.returns-in_err-send_entries-clause-prints
returns-in_err-send_entries-clause-prints g c =
    let p = err_from_is_err_and c.from_residual-in_err-send_entries.result c.from_residual-in_err-send_entries.ensures.1 in
    let head = rw c.format.ensures at c.in_ok-begin.ensures.text in
    rw (p.1, p.2, keytab_text c.args.file.now c.args.shows_keys c.args.keytab.now.state)
    (gathers_fails _ _ _ _ _ _ _ _ _ c.in_ok-elements.ensures.none head (rw c.in_ok-begin.ensures.first at c.in_err-send_entries.ensures.gathers))

pub returns-clause-prints : goal.returns-clause-prints
returns-clause-prints g c =
    let head = rw c.format.ensures at c.in_ok-begin.ensures.text in
    let tail = rw c.fault.ensures at c.end_file.ensures.prints in
    rw (keytab_text c.args.file.now c.args.shows_keys c.args.keytab.now.state)
    (gathers_prints _ _ _ _ _ _ _ _ _ _ _ c.in_ok-elements.ensures.none head (rw c.in_ok-begin.ensures.first at c.in_ok-send_entries.ensures.gathers) tail)

pub returns-clause-reads_back : goal.returns-clause-reads_back
returns-clause-reads_back g c =
    let k = c.args.keytab.now.state in
    let head = rw c.format.ensures at c.in_ok-begin.ensures.printed in
    on_ok_weaker c.end_file.result (λ tail. keytab_is_read c.args.file.now c.args.shows_keys k head c.in_ok-send_entries.ensures.plain (rw c.fault.ensures at tail)) c.end_file.ensures.printed

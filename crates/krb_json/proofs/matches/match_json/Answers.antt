use Rattle.krb_json.proofs.ForAnswers.{err_from_is_err_and, on_ok_weaker, gathers_prints, gathers_fails, prints_memory, match_is_read, match_text}
use Rattle.krb_json.proofs.matches.match_json.Goals as goal

pub returns-in_err-elements-clause-prints : goal.returns-in_err-elements-clause-prints
returns-in_err-elements-clause-prints g c = prints_memory _ _ _ c.requires c.from_residual.ensures.1

pub returns-in_err-begin-clause-prints : goal.returns-in_err-begin-clause-prints
returns-in_err-begin-clause-prints g c = prints_memory _ _ _ c.requires c.from_residual-in_err-begin.ensures.1

pub returns-in_err-send_tickets-clause-prints : goal.returns-in_err-send_tickets-clause-prints
returns-in_err-send_tickets-clause-prints g c =
    let p = err_from_is_err_and c.from_residual-in_err-send_tickets.result c.from_residual-in_err-send_tickets.ensures.1 in
    rw (p.1, p.2, match_text c.args.keytab.now c.args.file.now c.args.tickets.now c.args.fault c.args.status)
    (gathers_fails _ _ _ _ _ _ _ _ _ c.in_ok-elements.ensures.none c.in_ok-begin.ensures.text (rw c.in_ok-begin.ensures.first at c.in_err-send_tickets.ensures.gathers))

pub returns-clause-prints : goal.returns-clause-prints
returns-clause-prints g c =
    rw (match_text c.args.keytab.now c.args.file.now c.args.tickets.now c.args.fault c.args.status)
    (gathers_prints _ _ _ _ _ _ _ _ _ _ _ c.in_ok-elements.ensures.none c.in_ok-begin.ensures.text (rw c.in_ok-begin.ensures.first at c.in_ok-send_tickets.ensures.gathers) c.end_file.ensures.prints)

pub returns-clause-reads_back : goal.returns-clause-reads_back
returns-clause-reads_back g c =
    on_ok_weaker c.end_file.result (match_is_read c.args.keytab.now c.args.file.now c.args.tickets.now c.args.fault c.args.status c.in_ok-begin.ensures.printed c.in_ok-send_tickets.ensures.plain) c.end_file.ensures.printed

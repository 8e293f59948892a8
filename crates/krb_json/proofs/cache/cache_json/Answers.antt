use Rattle.krb_json.proofs.ForAnswers.{err_from_is_err_and, on_ok_weaker, gathers_prints, gathers_fails, prints_memory, cache_is_read, cache_text}
use Rattle.krb_json.proofs.cache.cache_json.Goals as goal

pub returns-in_err-begin-clause-prints : goal.returns-in_err-begin-clause-prints
returns-in_err-begin-clause-prints g c = prints_memory _ _ _ c.requires c.from_residual-in_err-begin.ensures.1

pub returns-in_err-send_arrays-clause-prints : goal.returns-in_err-send_arrays-clause-prints
returns-in_err-send_arrays-clause-prints g c =
    let p = err_from_is_err_and c.from_residual-in_err-send_arrays.result c.from_residual-in_err-send_arrays.ensures.1 in
    rw (p.1, p.2, cache_text c.args.file.now c.args.cache.now.state)
    (gathers_fails _ _ _ _ _ _ _ _ _ c.in_ok-elements.ensures.none c.in_ok-begin.ensures.text c.in_err-send_arrays.ensures.gathers)

pub returns-clause-prints : goal.returns-clause-prints
returns-clause-prints g c =
    let tail = rw c.fault.ensures at c.end_file.ensures.prints in
    rw (cache_text c.args.file.now c.args.cache.now.state)
    (gathers_prints _ _ _ _ _ _ _ _ _ _ _ c.in_ok-elements.ensures.none c.in_ok-begin.ensures.text c.in_ok-send_arrays.ensures.gathers tail)

pub returns-clause-reads_back : goal.returns-clause-reads_back
returns-clause-reads_back g c =
    let k = c.args.cache.now.state in
    on_ok_weaker c.end_file.result (λ tail. cache_is_read c.args.file.now k c.in_ok-begin.ensures.printed c.in_ok-send_arrays.ensures.tickets c.in_ok-send_arrays.ensures.configs (rw c.fault.ensures at tail)) c.end_file.ensures.printed

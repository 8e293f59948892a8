use Rattle.krb_json.proofs.ForAnswers.{err_from_is_err_and, adds_two, adds_fails, missing_are}
use Rattle.krb_json.proofs.check.send_findings.Goals as goal

pub returns-in_err-send_if : goal.returns-in_err-send_if
returns-in_err-send_if g c =
    let p = err_from_is_err_and c.from_residual.result c.from_residual.ensures.1 in
    let mode = rw (c.is_open_file.ensures, c.mode.ensures) at c.in_err-send_if.ensures in
    rw (p.1, p.2) (adds_fails _ _ mode)

pub returns-in_err-send_entries : goal.returns-in_err-send_entries
returns-in_err-send_entries g c =
    let p = err_from_is_err_and c.from_residual-in_err-send_entries.result c.from_residual-in_err-send_entries.ensures.1 in
    let mode = rw (c.is_open_file.ensures, c.mode.ensures) at c.in_ok-send_if.ensures in
    let entries = rw c.entries.ensures at c.in_err-send_entries.ensures in
    rw (p.1, p.2) (adds_two _ _ mode (adds_fails _ _ entries))

pub returns-in_err-send_names : goal.returns-in_err-send_names
returns-in_err-send_names g c =
    let p = err_from_is_err_and c.from_residual-in_err-send_names.result c.from_residual-in_err-send_names.ensures.1 in
    let mode = rw (c.is_open_file.ensures, c.mode.ensures) at c.in_ok-send_if.ensures in
    let entries = rw c.entries.ensures at c.in_ok-send_entries.ensures in
    let weak = rw c.entries-2.ensures at c.in_err-send_names.ensures in
    rw (p.1, p.2) (adds_two _ _ mode (adds_two _ _ entries (adds_fails _ _ weak)))

pub returns-in_err-send_if-2 : goal.returns-in_err-send_if-2
returns-in_err-send_if-2 g c =
    let p = err_from_is_err_and c.from_residual-in_err-send_if-2.result c.from_residual-in_err-send_if-2.ensures.1 in
    let mode = rw (c.is_open_file.ensures, c.mode.ensures) at c.in_ok-send_if.ensures in
    let entries = rw c.entries.ensures at c.in_ok-send_entries.ensures in
    let weak = rw c.entries-2.ensures at c.in_ok-send_names.ensures in
    let empty = rw c.is_empty.ensures at c.in_err-send_if-2.ensures in
    rw (p.1, p.2) (adds_two _ _ mode (adds_two _ _ entries (adds_two _ _ weak (adds_fails _ _ empty))))

pub returns-in_err-send_missing : goal.returns-in_err-send_missing
returns-in_err-send_missing g c =
    let p = err_from_is_err_and c.from_residual-in_err-send_missing.result c.from_residual-in_err-send_missing.ensures.1 in
    let mode = rw (c.is_open_file.ensures, c.mode.ensures) at c.in_ok-send_if.ensures in
    let entries = rw c.entries.ensures at c.in_ok-send_entries.ensures in
    let weak = rw c.entries-2.ensures at c.in_ok-send_names.ensures in
    let empty = rw c.is_empty.ensures at c.in_ok-send_if-2.ensures in
    let names = rw (missing_are c.missing.result.now, c.missing.ensures) at c.in_err-send_missing.ensures in
    rw (p.1, p.2) (adds_two _ _ mode (adds_two _ _ entries (adds_two _ _ weak (adds_two _ _ empty (adds_fails _ _ names)))))

pub returns : goal.returns
returns g c =
    let mode = rw (c.is_open_file.ensures, c.mode.ensures) at c.in_ok-send_if.ensures in
    let entries = rw c.entries.ensures at c.in_ok-send_entries.ensures in
    let weak = rw c.entries-2.ensures at c.in_ok-send_names.ensures in
    let empty = rw c.is_empty.ensures at c.in_ok-send_if-2.ensures in
    let names = rw (missing_are c.missing.result.now, c.missing.ensures) at c.in_ok-send_missing.ensures in
    let unwanted = rw c.entries-3.ensures at c.send_names-2.ensures in
    adds_two _ _ mode (adds_two _ _ entries (adds_two _ _ weak (adds_two _ _ empty (adds_two _ _ names unwanted))))

use Rattle.krb_readers.proofs.Cited.{ℕ, List, ap, sym, subst, ◌∙◌, Ok, Err, err_from_is_err_and, CheckParts, check_json_text, verdict_status, Prints, found, found_verdict, is_silent, checked}
use Rattle.krb_audit.specs.Findings.{CheckAsked}
use Rattle.krb_readers.proofs.Checked.{object-failed, object-shown, object-silent, object-unshown}
use Rattle.krb_readers.proofs.ktcheck.page.CheckObjectShow.show.Goals as goal

pub returns-in_err-found : goal.returns-in_err-found
returns-in_err-found g c =
    let j = c.args.self.now in
    let p = err_from_is_err_and c.from_residual.result c.from_residual.ensures.1 in
    rw (p.1 ∙ ap Err p.2) (object-unshown j.options.now j.explained c.args.file.now (found j.options.now j.aged_by j.mode j.keytab.state) c.args.out.now c.requires)

pub returns-then-is_silent : goal.returns-then-is_silent
returns-then-is_silent g c =
    let j = c.args.self.now in
    let due = found j.options.now j.aged_by j.mode j.keytab.state in
    let is = c.in_ok-found.ensures ∙ ap (λ (a : CheckAsked). checked j.mode a j.keytab.state) c.asked-asked.ensures in
    let silent = sym (c.is_silent.ensures ∙ ap (is_silent j.options.now) is) ∙ c.if-is_silent.true in
    object-silent j.options.now j.explained c.args.file.now due c.args.out.now c.verdict_of-verdict.result c.requires
    (c.verdict_of-verdict.ensures ∙ ap (found_verdict j.options.now j.explained) is) silent

pub returns-in_err-check_json : goal.returns-in_err-check_json
returns-in_err-check_json g c =
    let j = c.args.self.now in
    let file = c.args.file.now in
    let due = found j.options.now j.aged_by j.mode j.keytab.state in
    let is = c.in_ok-found.ensures ∙ ap (λ (a : CheckAsked). checked j.mode a j.keytab.state) c.asked-asked.ensures in
    let prints = sym (c.is_silent.ensures ∙ ap (is_silent j.options.now) is) ∙ c.if-is_silent.false in
    let verdict = c.verdict_of-verdict.ensures ∙ ap (found_verdict j.options.now j.explained) is in
    let text = ap (λ (d : CheckParts). check_json_text file d c.status.result) is ∙ ap (check_json_text file due) (c.status.ensures ∙ ap verdict_status verdict) in
    let p = err_from_is_err_and c.from_residual-in_err-check_json.result c.from_residual-in_err-check_json.ensures.1 in
    rw (p.1 ∙ ap Err p.2) (object-failed j.options.now j.explained file due c.args.out.now c.check_json.new.out c.in_err-check_json.field-0.0 prints
    (subst (λ (t : List ℕ). Prints {T = Unit {0}} c.args.out.now c.check_json.new.out (Err c.in_err-check_json.field-0.0) t) text c.in_err-check_json.ensures.prints))

pub returns : goal.returns
returns g c =
    let j = c.args.self.now in
    let file = c.args.file.now in
    let due = found j.options.now j.aged_by j.mode j.keytab.state in
    let is = c.in_ok-found.ensures ∙ ap (λ (a : CheckAsked). checked j.mode a j.keytab.state) c.asked-asked.ensures in
    let prints = sym (c.is_silent.ensures ∙ ap (is_silent j.options.now) is) ∙ c.if-is_silent.false in
    let verdict = c.verdict_of-verdict.ensures ∙ ap (found_verdict j.options.now j.explained) is in
    let text = ap (λ (d : CheckParts). check_json_text file d c.status.result) is ∙ ap (check_json_text file due) (c.status.ensures ∙ ap verdict_status verdict) in
    object-shown j.options.now j.explained file due c.args.out.now c.check_json.new.out c.verdict_of-verdict.result c.requires verdict prints
    (subst (λ (t : List ℕ). Prints {T = Unit {0}} c.args.out.now c.check_json.new.out (Ok tt) t) text c.in_ok-check_json.ensures.prints)

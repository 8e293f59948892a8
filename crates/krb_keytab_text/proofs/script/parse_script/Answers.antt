use Rattle.krb_keytab_text.proofs.Cited.{◌≡◌, ◌+◌, ◌++◌, List, ℕ, true, length, sym, ap, ◌∙◌, arith, err_from_is_err_and, pieces, is_command, commands_from, faults_of, commands_read}
use Rattle.krb_text.proofs.Cuts.{length-pieces}
use Rattle.krb_keytab_text.proofs.Scripts.{gives_line, refuses_script, takes_memory, ok_of_and}
use Rattle.krb_keytab_text.proofs.script.parse_script.Goals as goal

pub overflow_add-number : goal.overflow_add-number
overflow_add-number g c =
    let more = ap length c.in-Some.ensures.steps in
    let count = c.lines.invariant.count in
    let few = length-pieces 10 c.args.text.now in
    omega (arith, more, count, few)

pub lines-preserved-in-Continue-1 : goal.lines-preserved-in-Continue-1
lines-preserved-in-Continue-1 g c =
    let f = g.L.ScriptLine.line_in in
    let asks : is_command c.in-Some.line.now ≡ true = sym c.is_command.ensures ∙ c.if-is_command.true in
    let gives = gives_line f (c.lines.number + 1) c.in-Some.line.now c.next.new.self c.lines.read_lines.items c.add_line.new.read_lines.items asks c.in_ok-add_line.ensures.ok in
    let more = ap length c.in-Some.ensures.steps in
    let count = c.lines.invariant.count in
    record {
      count = omega (arith, more, count);
      faults = c.lines.invariant.faults ∙ ap (λ (lines : List (List ℕ)). faults_of f (commands_from (c.lines.number + 1) lines)) c.in-Some.ensures.steps ∙ gives.faults;
      read_lines = c.lines.invariant.read_lines ∙ ap (λ (lines : List (List ℕ)). c.lines.read_lines.items ++ commands_read f (commands_from (c.lines.number + 1) lines)) c.in-Some.ensures.steps ∙ gives.read_lines;
      memory = λ _. c.lines.invariant.memory (rw c.in-Some.ensures.steps (takes_memory f (c.lines.number + 1) c.in-Some.line.now c.next.new.self asks (ok_of_and _ (f c.in-Some.line.now) c.in_ok-add_line.ensures.ok)));
    }

pub returns-in_err-add_line-clause-err : goal.returns-in_err-add_line-clause-err
returns-in_err-add_line-clause-err g c =
    let f = g.L.ScriptLine.line_in in
    let p = err_from_is_err_and c.from_residual.result c.from_residual.ensures.1 in
    let asks : is_command c.in-Some.line.now ≡ true = sym c.is_command.ensures ∙ c.if-is_command.true in
    let from = p.2 in
    let err = c.in_err-add_line.ensures.err in
    let faults = c.lines.invariant.faults ∙ ap (λ (lines : List (List ℕ)). faults_of f (commands_from (c.lines.number + 1) lines)) c.in-Some.ensures.steps in
    rw p.1 (rw (faults, from) (refuses_script f (c.lines.number + 1) c.in-Some.line.now c.next.new.self (commands_read f (commands_from 1 (pieces 10 c.args.text.now))) _ asks err))

pub returns-in_err-add_line-clause-memory : goal.returns-in_err-add_line-clause-memory
returns-in_err-add_line-clause-memory g c refused =
    let f = g.L.ScriptLine.line_in in
    let p = err_from_is_err_and c.from_residual.result c.from_residual.ensures.1 in
    let asks : is_command c.in-Some.line.now ≡ true = sym c.is_command.ensures ∙ c.if-is_command.true in
    let gives = c.in_err-add_line.ensures.memory (cc (p.1, p.2)) in
    c.lines.invariant.memory (rw c.in-Some.ensures.steps (takes_memory f (c.lines.number + 1) c.in-Some.line.now c.next.new.self asks gives))

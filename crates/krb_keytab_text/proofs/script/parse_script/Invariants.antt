use Rattle.krb_keytab_text.proofs.Cited.{◌≡◌, ◌+◌, ◌++◌, length, pieces, commands_from, faults_of, commands_read, TakesMemory}
use Rattle.krb_keytab_text.proofs.script.parse_script.Given as goal

-- no line so far is faulty, and what the lines are read as has been appended
abbrev pub invariant-lines : goal.invariant-lines
invariant-lines g l = record {
  count : l.number + length l.line-iterator ≡ length (pieces 10 l.text);
  faults : faults_of g.L.ScriptLine.line_in (commands_from 1 (pieces 10 l.text)) ≡ faults_of g.L.ScriptLine.line_in (commands_from (l.number + 1) l.line-iterator);
  read_lines : commands_read g.L.ScriptLine.line_in (commands_from 1 (pieces 10 l.text)) ≡ l.read_lines.items ++ commands_read g.L.ScriptLine.line_in (commands_from (l.number + 1) l.line-iterator);
  memory : TakesMemory g.L.ScriptLine.line_in (commands_from (l.number + 1) l.line-iterator) → TakesMemory g.L.ScriptLine.line_in (commands_from 1 (pieces 10 l.text));
}

use Rattle.krb_audit.proofs.ForAnswers.{◌≡◌, ◌++◌}
use Rattle.std.proofs.Common.{drop}
use Rattle.krb_audit.specs.Standings.{selected_marks}
use Rattle.krb_audit.proofs.versions.selected_marks.Given as goal

-- with the marks of the rows that are left, all marks
abbrev pub invariant-rows : goal.invariant-rows
invariant-rows g l = l.marks.items ++ selected_marks l.selected (drop l.row-index l.rows) ≡ selected_marks l.fn.selected l.rows

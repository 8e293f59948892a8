use Rattle.krb_editors.proofs.ForAnswers.{drop, Leads}
use Rattle.krb_editors.proofs.missing_files.look_for_all.Given as goal

-- the files so far were looked for, and others may come
abbrev pub invariant-names : goal.invariant-names
invariant-names g l = Leads g.F.Files l.files l.names (drop l.file-index l.names) l.fn.err l.err l.is_one_missing

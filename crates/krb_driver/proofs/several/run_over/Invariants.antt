use Rattle.krb_driver.proofs.ForAnswers.{drop, first_round, Leads}
use Rattle.krb_driver.proofs.several.run_over.Given as goal

-- the command was run over the files so far, and others may come
abbrev pub invariant-names : goal.invariant-names
invariant-names g l = Leads g.F.Files (g.C.OverFiles.plan l.command) g.C.OverFiles.after l.names (drop l.file-index l.names) (first_round l.fn.first l.fn.world)
    (record { world = l.world; state = l.ran.state; status = l.ran.status })

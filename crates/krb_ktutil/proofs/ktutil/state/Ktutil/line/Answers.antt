use Rattle.krb_ktutil.proofs.KtutilDue.{makes_spares}
use Rattle.krb_ktutil.proofs.ktutil.state.Ktutil.line.Goals as goal

-- what follows from the plan
pub returns : goal.returns
returns g c = record {
  made = c.run_line.ensures;
  spared = makes_spares g.F.Files c.args.self.now c.run_line.new.self c.args.files.now c.run_line.new.files _ _ c.args.now c.args.number c.args.line.now c.run_line.ensures;
}

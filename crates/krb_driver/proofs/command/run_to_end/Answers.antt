use Rattle.krb_driver.proofs.ForAnswers.{made_effect, ends_finished}
use Rattle.krb_driver.proofs.command.run_to_end.Goals as goal

pub returns : goal.returns
returns g c =
    let command = c.args.command.now in
    ends_finished g.F.Files (g.C.Command.plan command) (g.C.Command.fairly command) c.args.world.now c.finish.new.world c.make-made.new.files
    (made_effect g.C.Shown.Show.page (g.C.Command.file command) c.make-made.result) c.finish.result c.make-made.ensures (rw c.file.ensures at c.finish.ensures.finishes) c.finish.ensures.input

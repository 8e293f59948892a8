use Rattle.krb_driver.proofs.ForAnswers.{any, made_effect, ends_finished}
use Rattle.krb_driver.proofs.several.run_file.Goals as goal

pub returns : goal.returns
returns g c =
    ends_finished g.F.Files (g.C.OverFiles.plan c.args.command.now c.args.state c.args.file) any c.args.world.now c.finish.new.world c.make-made.new.files
    (made_effect g.C.Shown.Show.page c.args.file.name.now c.make-made.result) c.finish.result c.make-made.ensures c.finish.ensures.finishes c.finish.ensures.input

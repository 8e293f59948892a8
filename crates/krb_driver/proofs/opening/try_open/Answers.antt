use Rattle.krb_driver.proofs.ForAnswers.{tries_by}
use Rattle.krb_driver.proofs.opening.try_open.Goals as goal

pub returns-in-Ok : goal.returns-in-Ok
returns-in-Ok g c = tries_by g.F.Files c.args.files.now c.args.file (g.O.Opener.gives c.args.opener c.args.file.in_place) _ c.give.new.files c.in-Ok.ensures

pub returns-in-Err : goal.returns-in-Err
returns-in-Err g c = tries_by g.F.Files c.args.files.now c.args.file (g.O.Opener.gives c.args.opener c.args.file.in_place) _ c.give.new.files c.in-Err.ensures

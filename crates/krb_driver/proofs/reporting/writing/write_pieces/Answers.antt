use Rattle.krb_driver.proofs.Shown.{writes_one}
use Rattle.krb_driver.proofs.reporting.writing.write_pieces.Goals as goal

pub returns : goal.returns
returns g c = writes_one _ _ _ _ _ (rw c.new-gathered.ensures at c.add_pieces.ensures) c.send.ensures

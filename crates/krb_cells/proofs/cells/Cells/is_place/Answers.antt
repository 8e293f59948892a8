use Rattle.std.proofs.Common.{◌∙◌, sym}
use Rattle.krb_cells.proofs.Cuts.{is_first_place}
use Rattle.krb_cells.proofs.cells.Cells.is_place.Goals as goal

pub returns : goal.returns
returns g c = is_first_place c.loop-rest.rest c.args.place (sym c.first.ensures.first ∙ c.loop-rest-test.false) ∙ c.loop-rest.invariant

use Rattle.std.proofs.Common.{refl, arith}
use Rattle.krb_cells.proofs.Given.{none_given, one_given, all_given}
use Rattle.krb_cells.proofs.carry.give_places.Goals as goal

pub cells-init : goal.cells-init
cells-init g c = none_given (g.F.CellFormat.cells c.args.front) c.args.new c.args.first c.args.end c.args.image.now c.first-to.result c.requires.ahead c.requires.within c.requires.cells c.first-to.ensures.first

pub cells-preserved : goal.cells-preserved
cells-preserved g c =
    one_given _ _ _ _ _ _ _ _ _ _ _ _ _ _ _ c.cells.invariant c.part.ensures c.in-Some.ensures.some c.give_place.ensures refl (omega (arith, c.give_place.auto.image)) c.first-to-in-Some.ensures.first

pub returns-clause-given : goal.returns-clause-given
returns-clause-given g c = (all_given _ _ _ _ _ _ _ _ _ _ c.cells.invariant c.part.ensures c.in_default.ensures.none).given

pub returns-clause-end : goal.returns-clause-end
returns-clause-end g c = (all_given _ _ _ _ _ _ _ _ _ _ c.cells.invariant c.part.ensures c.in_default.ensures.none).is_end

pub returns-clause-last : goal.returns-clause-last
returns-clause-last g c = (all_given _ _ _ _ _ _ _ _ _ _ c.cells.invariant c.part.ensures c.in_default.ensures.none).last

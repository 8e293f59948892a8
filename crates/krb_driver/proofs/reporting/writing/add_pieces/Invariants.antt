use Rattle.krb_driver.proofs.Cited.{take, flat_map, piece_text, Adds}
use Rattle.krb_driver.proofs.reporting.writing.add_pieces.Given as goal

abbrev pub invariant-pieces : goal.invariant-pieces
invariant-pieces g l = Adds l.initial.err l.initial.gathered.items l.err l.gathered.items (flat_map piece_text (take l.piece-index l.pieces))

use Rattle.krb_cells.proofs.Cited.{arith, given_at}
use Rattle.std.proofs.lemmas.List.{get_or_default}
use Rattle.std.proofs.lemmas.List.Edits.{map_over_more}
use Rattle.krb_cells.proofs.carry.carry_all.Goals as goal

pub loop-cursor-preserved : goal.loop-cursor-preserved
loop-cursor-preserved c = search (arith, map_over_more (given_at c.args.image.now c.args.end c.args.last), get_or_default)

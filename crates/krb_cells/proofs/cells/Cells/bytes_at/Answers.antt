use Rattle.krb_cells.proofs.Cuts.{live_is_place}
use Rattle.krb_cells.proofs.cells.Cells.bytes_at.Goals as goal

pub from-rest-requires : goal.from-rest-requires
from-rest-requires g c = live_is_place c.args.self c.args.place c.requires

use Rattle.std.proofs.lemmas.Slice.Eq.{slice_eq-Decides}
use Rattle.std.proofs.lemmas.Bool.Decides.{Decides-eqb}
use Rattle.krb_disk.proofs.old.Old.is_of.Goals as goal

pub returns : goal.returns
returns g c = rw c.name.ensures at (slice_eq-Decides Decides-eqb c.name.result.now c.args.name.now c.eq.result c.eq.ensures)

use Rattle.std.proofs.lemmas.Bool.Decides.{Decides-eqb}
use Rattle.std.proofs.lemmas.Slice.Eq.{slice_eq-Decides}
use Rattle.krb_disk.proofs.Parts.{same_part}
use Rattle.krb_disk.proofs.patch.is_same_part.Goals as goal

-- equal parts are the same list, by `slice_eq-Decides`
pub returns : goal.returns
returns c = λ same. same_part c.args.old.now c.args.new.now c.args.from c.args.to c.requires.1 c.requires.2 ((slice_eq-Decides Decides-eqb _ _ _ c.eq.ensures).0 same)

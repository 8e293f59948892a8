use Rattle.krb_json.proofs.Cited.{append_assoc, append-nil, flag_members}
use Rattle.krb_json.proofs.piece.Piece.flags.Goals as goal

pub returns : goal.returns
unfolding flag_members
returns g c = rw (c.in_ok-number.ensures, c.in_ok-letters.ensures) (simp (append_assoc, append-nil))

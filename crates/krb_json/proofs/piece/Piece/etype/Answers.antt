use Rattle.krb_json.proofs.Cited.{append_assoc, append-nil, etype_members}
use Rattle.krb_json.proofs.piece.Piece.etype.Goals as goal

pub returns : goal.returns
unfolding etype_members
returns g c = rw (c.in_ok-string_or_null.ensures, c.in_ok-number.ensures, c.etype_name.ensures) (simp (append_assoc, append-nil))

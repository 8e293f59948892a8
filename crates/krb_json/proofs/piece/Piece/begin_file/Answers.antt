use Rattle.krb_json.proofs.Cited.{append_assoc, append-nil, file_members}
use Rattle.krb_json.proofs.piece.Piece.begin_file.Goals as goal

pub returns : goal.returns
unfolding file_members
returns g c =
    rw (c.in_ok-number.ensures, c.in_ok-string-2.ensures, c.in_ok-string.ensures, c.in_ok-begin_object.ensures) (simp (append_assoc, append-nil))

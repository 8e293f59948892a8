use Rattle.krb_json.proofs.Cited.{append_assoc, append-nil, judgement_members}
use Rattle.krb_json.proofs.piece.Piece.judgement.Goals as goal

pub returns : goal.returns
unfolding judgement_members
returns g c =
    rw (c.in_ok-keytab_etypes.ensures, c.in_ok-integer-2.ensures, c.in_ok-integer.ensures, c.in_ok-string.ensures, c.word.ensures, c.found-place.ensures) (simp (append_assoc, append-nil))

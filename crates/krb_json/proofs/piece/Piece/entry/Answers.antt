use Rattle.krb_json.proofs.Cited.{append_assoc, flat_map-append, entry_value}
use Rattle.krb_json.proofs.Arrays.{members_end_object}
use Rattle.krb_json.proofs.piece.Piece.entry.Goals as goal

pub returns : goal.returns
unfolding entry_value
returns g c =
    rw (
      c.in_ok-end_object.ensures,
      c.in_ok-key.ensures,
      c.in_ok-number.ensures,
      c.in_ok-etype.ensures,
      c.in_ok-owner.ensures,
      c.in_ok-begin_object.ensures,
      c.enctype.ensures,
      c.timestamp.ensures,
      c.key.ensures,
    )
    (simp (members_end_object, flat_map-append, append_assoc))

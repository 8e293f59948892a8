use Rattle.krb_json.proofs.Cited.{append_assoc, ◌≡◌, w64, arith, w32, to_z, of_z}
use Rattle.std.proofs.lemmas.Int.{to_z-of_z}
use Rattle.krb_json.proofs.piece.Piece.offset.Goals as goal

pub returns : goal.returns
returns g c =
    let o = c.in-Some.offset in
    let seconds : to_z w64 (of_z w64 (to_z w32 (of_z w32 o.seconds))) ≡ o.seconds = grind (arith, to_z-of_z) in
    let micros : to_z w64 (of_z w64 (to_z w32 (of_z w32 o.micros))) ≡ o.micros = grind (arith, to_z-of_z) in
    rw (c.in-Some.is, c.in_ok-end_object.ensures, c.in_ok-integer-2.ensures, c.in_ok-integer.ensures, c.in_ok-begin_object_at.ensures, seconds, micros) (simp append_assoc)

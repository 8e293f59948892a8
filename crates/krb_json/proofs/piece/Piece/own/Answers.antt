use Rattle.krb_json.proofs.Cited.{append_assoc, append-nil, ◌≡◌, own_members, option_map, rules}
use Rattle.krb_json.proofs.piece.Piece.own.Goals as goal

pub returns : goal.returns
unfolding own_members
returns g c =
    let etype : c.map.result ≡ option_map (λ e. e.etype) c.ticket_encryption-encryption.result = search rules in
    rw (c.in_ok-own_server.ensures, c.in_ok-integer-2.ensures, c.in_ok-string_or_null.ensures, c.in_ok-integer.ensures, etype, c.name_of.ensures, c.kvno_of.ensures, c.ticket_encryption-encryption.ensures)
    (simp (append_assoc, append-nil))

use Rattle.krb_json.proofs.piece.Piece.own_server.Goals as goal

pub returns-in-None : goal.returns-in-None
returns-in-None g c = rw c.in-None.ensures c.null.ensures

use Rattle.krb_json.proofs.Cited.{◌≡◌, ◌++◌, drop, map, items_of, items_tokens, number_of}
use Rattle.krb_json.proofs.piece.Piece.elements.Given as goal

-- the enctypes so far, and those to come, are all
abbrev pub invariant-etypes : goal.invariant-etypes
invariant-etypes g l = l.self ++ items_tokens (items_of (map number_of (drop l.etype-index l.etypes))) ≡ l.fn.self ++ items_tokens (items_of (map number_of l.etypes))

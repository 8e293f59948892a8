use Rattle.krb_ccache.proofs.Cited.{◌≡◌, ℕ, ◌+◌, List, length, ap, length-append, arith, IsAt, HasRoom, ◌++◌, refl, left_room, left_next, left_all, new_preamble, new_texts}
use Rattle.std.specs.Borrow.{MutBor}
use Rattle.krb_wire.specs.declared.pen.Pen.{Pen}
use Rattle.krb_ccache.proofs.new_image.write_image.Goals as goal

-- there is room for two texts that take up the whole of an image
whole_room : (out : MutBor (List ℕ)) (pen : Pen) (a b : List ℕ) → IsAt out 0 pen → length out.now ≡ length a + length b → HasRoom pen (a ++ b)
whole_room out pen a b at len =
    omega (arith, at.place, len, ap length at.bytes, length-append a b)

pub put_preamble-requires-clause-room : goal.put_preamble-requires-clause-room
put_preamble-requires-clause-room g c = left_room (new_preamble (g.N.Name.parts c.args.principal.now) c.args.offset) (new_texts c.args.version c.args.cells.now) (left_all {pen = c.new-pen.result} refl (whole_room _ c.new-pen.result (new_preamble (g.N.Name.parts c.args.principal.now) c.args.offset) (new_texts c.args.version c.args.cells.now) c.new-pen.ensures c.requires.len)) refl

pub put_texts-requires : goal.put_texts-requires
put_texts-requires g c = (left_next {others = new_texts c.args.version c.args.cells.now} (left_all {pen = c.new-pen.result} refl (whole_room _ c.new-pen.result (new_preamble (g.N.Name.parts c.args.principal.now) c.args.offset) (new_texts c.args.version c.args.cells.now) c.new-pen.ensures c.requires.len)) refl c.put_preamble.ensures).room

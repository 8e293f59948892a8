use Rattle.krb_ccache.proofs.Cited.{w16, Big, digits, data32, refl, puts_then, left_room, left_next, left_all}
use Rattle.krb_ccache.proofs.credential.spelling.put_item.Goals as goal

pub put_u16-requires : goal.put_u16-requires
put_u16-requires c = left_room (digits Big w16 c.args.kind) (data32 Big c.args.bytes.now) (left_all {pen = c.args.pen.now} refl c.requires.room) refl

pub put_data32-requires-clause-room : goal.put_data32-requires-clause-room
put_data32-requires-clause-room c = (left_next {others = data32 Big c.args.bytes.now} (left_all refl c.requires.room) refl c.put_u16.ensures).room

pub returns : goal.returns
returns c = puts_then c.put_u16.ensures c.put_data32.ensures

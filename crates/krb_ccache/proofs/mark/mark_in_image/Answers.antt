use Rattle.krb_ccache.proofs.Cited.{ap, is_some, is_some_has}
use Rattle.krb_ccache.proofs.MarkImage.{live_in, marked_held}
use Rattle.krb_ccache.proofs.mark.mark_in_image.Goals as goal

pub mark-requires-clause-within : goal.mark-requires-clause-within
mark-requires-clause-within c =
    let s = is_some_has _ c.requires.live in
    (live_in c.args.layout c.args.image.now c.args.place s.0 c.bytes_fit.ensures c.requires.kept s.1).within

pub mark-requires-clause-there : goal.mark-requires-clause-there
mark-requires-clause-there c =
    let s = is_some_has _ c.requires.live in
    ap is_some (live_in c.args.layout c.args.image.now c.args.place s.0 c.bytes_fit.ensures c.requires.kept s.1).read

pub returns-clause-marked : goal.returns-clause-marked
returns-clause-marked c =
    let s = is_some_has _ c.requires.live in
    let live = live_in c.args.layout c.args.image.now c.args.place s.0 c.bytes_fit.ensures c.requires.kept s.1 in
    marked_held c.args.layout c.args.image.now c.mark.new.image c.args.place s.0 c.bytes_fit.ensures c.bytes_fit-2.ensures c.requires.kept live (c.mark.ensures.marked s.0 live.after live.read)

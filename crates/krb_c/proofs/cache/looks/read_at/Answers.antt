use Rattle.krb_c.proofs.CacheCells.{read_there}
use Rattle.krb_c.proofs.cache.looks.read_at.Goals as goal

pub unreachable-requires : goal.unreachable-requires
unreachable-requires c =
    let r = read_there c.args.cache.now.state c.image-spelled.result.now c.bytes_at.result.now c.args.place c.image-spelled.ensures.bytes c.image-spelled.ensures.reopens c.bytes_at.ensures in
    cc (r.read, c.version.ensures, c.read_credential.ensures, c.in_default.is)

pub returns : goal.returns
returns c =
    let r = read_there c.args.cache.now.state c.image-spelled.result.now c.bytes_at.result.now c.args.place c.image-spelled.ensures.bytes c.image-spelled.ensures.reopens c.bytes_at.ensures in
    cc (r.read, r.there, c.version.ensures, c.read_credential.ensures, c.in-Some.is)

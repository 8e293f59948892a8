use Rattle.krb_c.proofs.ListLemmas.{lists_read_there, lists_are}
use Rattle.krb_c.proofs.cache.lists.lists_at.Goals as goal

pub unreachable-requires : goal.unreachable-requires
unreachable-requires c =
    lists_read_there c.args.cache.now.state c.image-spelled.result.now c.bytes_at-bytes.result.now c.args.place c.image-spelled.ensures.bytes c.image-spelled.ensures.reopens c.are_bytes.ensures c.bytes_at-bytes.ensures c.version.result c.version.ensures c.in_default.ensures

pub returns : goal.returns
returns c =
    lists_are c.args.cache.now.state c.image-spelled.result.now c.bytes_at-bytes.result.now c.args.place c.image-spelled.ensures.bytes c.image-spelled.ensures.reopens c.are_bytes.ensures c.bytes_at-bytes.ensures c.version.result c.version.ensures c.in-Some.lists.0.now c.in-Some.lists.1.now c.in-Some.ensures

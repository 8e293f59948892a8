use Rattle.krb_ccache.proofs.Cited.{◌<◌, refl, arith, first_held, none_held, typed_data_at}
use Rattle.krb_ccache.proofs.credential.typed_list.split_first.Goals as goal

pub returns-then-count-eq0-clause-first : goal.returns-then-count-eq0-clause-first
returns-then-count-eq0-clause-first c = rw c.if-count-eq0.true refl

pub unreachable-requires : goal.unreachable-requires
unreachable-requires c = none_held typed_data_at c.args.count c.args.bytes.now c.requires (let h = c.if-count-eq0.false in omega arith) c.in_default.ensures

pub returns-clause-first : goal.returns-clause-first
returns-clause-first c = (first_held typed_data_at c.args.count c.args.bytes.now _ c.in-Some.others.now c.requires (let h = c.if-count-eq0.false in omega arith) (c.in-Some.ensures)).0

pub returns-clause-others : goal.returns-clause-others
returns-clause-others c = let lt : 0 < c.args.count = (let h = c.if-count-eq0.false in omega arith) in (lt, (first_held typed_data_at c.args.count c.args.bytes.now _ c.in-Some.others.now c.requires lt (c.in-Some.ensures)).1)

use Rattle.krb_keytab.proofs.Cited.{rules, of_calls, nat_lt}
use Rattle.std.proofs.lemmas.Fn.{always_returns_same}
use Rattle.krb_keytab.proofs.SlotLemmas.{is_rank, partitioned_by_place}
use Rattle.krb_keytab.proofs.indexed.table.rank.Goals as goal

pub returns : goal.returns
returns c =
    is_rank c.args.slots.now c.args.place c.partition_point.result c.partition_point.ensures.bound
    (c.partition_point.ensures.partitioned (λ s. nat_lt s.place c.args.place) (always_returns_same _ _ _ (λ a r f k. search (rules, of_calls)))
    (partitioned_by_place c.args.slots.now c.args.place c.requires))

use Rattle.krb_editors.proofs.ForAnswers.{rules, sym, arith, nat_lt, below_point}
use Rattle.std.proofs.lemmas.List.Sorted.{IsPartitionPoint-from_clause, IsPartitionedBy-ltb}
use Rattle.krb_editors.proofs.added.rank.Goals as goal

pub returns : goal.returns
returns c =
    let place = c.args.place in
    let places = c.args.places.now in
    let parts = IsPartitionPoint-from_clause (λ y. nat_lt y place) places c.partition_point.result c.partition_point.ensures.partitioned (IsPartitionedBy-ltb (λ x. x) places place c.requires) (λ a r q k. search rules) in
    sym (below_point place places c.partition_point.result c.partition_point.ensures.bound (λ k lt. parts.0 k 0 (omega arith) lt) (λ k ge lt. parts.1 k 0 ge lt))

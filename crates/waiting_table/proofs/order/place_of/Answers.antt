use Rattle.std.proofs.Common.{ltb, rules}
use Rattle.std.proofs.lemmas.List.Sorted.{IsPartitionPoint-from_clause, IsPartitionedBy-ltb}
use Rattle.waiting_table.specs.declared.order.Entry.{Entry}
use Rattle.waiting_table.proofs.Ordered.{nondecreasing, place_from_point}
use Rattle.waiting_table.proofs.order.place_of.Goals as goal

pub returns : goal.returns
returns c =
    let parted = IsPartitionedBy-ltb (λ (e : Entry). e.row.ticket) c.args.entries.now c.args.ticket (nondecreasing c.args.entries.now c.requires) in
    let point = IsPartitionPoint-from_clause (λ (e : Entry). ltb e.row.ticket c.args.ticket) _ _ c.partition_point.ensures.partitioned parted (λ a r q k. search rules) in
    place_from_point c.args.entries.now c.args.ticket c.partition_point.result c.partition_point.ensures.bound point

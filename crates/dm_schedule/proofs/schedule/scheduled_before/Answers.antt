use Rattle.std.proofs.Common.{ltb, ltb-false, arith, rules}
use Rattle.std.proofs.lemmas.List.Sorted.{IsPartitionPoint-from_clause, IsPartitionedBy-ltb}
use Rattle.std.proofs.lemmas.List.{length-take-le}
use Rattle.dm_schedule.specs.declared.schedule.Scheduled.{Scheduled}
use Rattle.dm_schedule.proofs.schedule.scheduled_before.Goals as goal

pub returns-clause-rest : goal.returns-clause-rest
returns-clause-rest c =
    let parted = IsPartitionedBy-ltb (λ (s : Scheduled). s.time) _ c.args.clock c.requires.rising in
    let point = IsPartitionPoint-from_clause (λ (s : Scheduled). ltb s.time c.args.clock) _ _ c.partition_point-count.ensures.partitioned parted (λ a r q k. search rules) in
    let many = length-take-le c.partition_point-count.result c.args.schedule.now c.partition_point-count.ensures.bound in
    λ k d from within. ltb-false _ _ (point.1 k d (omega arith) within)

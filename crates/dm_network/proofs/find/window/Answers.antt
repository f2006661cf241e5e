-- The places from where the stops reach the wanted one up to where they pass it.
use Rattle.std.proofs.Common.{ltb, leb, rules}
use Rattle.std.proofs.lemmas.List.Sorted.{IsPartitionPoint-from_clause, IsPartitionedBy-ltb, IsPartitionedBy-leb}
use Rattle.dm_network.proofs.Windows.{stops_do_not_fall, stands_within}
use Rattle.dm_network.proofs.find.window.Goals as goal

pub returns : goal.returns
returns c =
    stands_within c.args.stops.now c.args.stop.0 c.partition_point-start.result c.partition_point-end.result
    (IsPartitionPoint-from_clause (λ s. ltb s.0 c.args.stop.0) c.args.stops.now c.partition_point-start.result
    c.partition_point-start.ensures.partitioned
    (IsPartitionedBy-ltb (λ s. s.0) c.args.stops.now c.args.stop.0 (stops_do_not_fall c.args.stops.now c.requires))
    (λ a r q h. search rules))
    (IsPartitionPoint-from_clause (λ s. leb s.0 c.args.stop.0) c.args.stops.now c.partition_point-end.result
    c.partition_point-end.ensures.partitioned
    (IsPartitionedBy-leb (λ s. s.0) c.args.stops.now c.args.stop.0 (stops_do_not_fall c.args.stops.now c.requires))
    (λ a r q h. search rules))
    c.partition_point-start.ensures.bound c.partition_point-end.ensures.bound

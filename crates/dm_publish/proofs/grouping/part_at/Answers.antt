use Rattle.std.proofs.Common.{rules, ◌≡◌, ◌-◌, true, false, List, length, take, drop, arith}
use Rattle.std.specs.List.Sorted.{IsPartitionPoint}
use Rattle.std.proofs.lemmas.List.{take_all, length-drop}
use Rattle.std.proofs.lemmas.List.Sorted.{IsPartitionPoint-from_clause, IsPartitionedBy-ltb}
use lib.Dec.{ltb}
use Rattle.dm_publish.specs.declared.changes.Listed.{Listed}
use Rattle.dm_publish.proofs.Grouped.{is_part}
use Rattle.dm_publish.proofs.grouping.part_at.Goals as goal

pub returns : goal.returns
returns c =
    let from = c.partition_point-from.result in
    let listed : List Listed = c.args.listed.now in
    let behind : List Listed = take (length listed - from) (drop from listed) in
    let low : IsPartitionPoint (λ (l : Listed). ltb l.stop.0 c.args.stop.0 ≡ true) (λ (l : Listed). ltb l.stop.0 c.args.stop.0 ≡ false) listed from =
    IsPartitionPoint-from_clause (λ (l : Listed). ltb l.stop.0 c.args.stop.0) listed from c.partition_point-from.ensures.partitioned
    (IsPartitionedBy-ltb (λ (l : Listed). l.stop.0) listed c.args.stop.0 c.requires) (λ a r q k. search rules) in
    let long = length-drop from listed in
    let is : behind ≡ drop from listed = take_all (length listed - from) (drop from listed) (omega arith) in
    is_part listed behind c.args.stop.0 from c.leading.result is c.partition_point-from.ensures.bound c.requires low c.leading.ensures

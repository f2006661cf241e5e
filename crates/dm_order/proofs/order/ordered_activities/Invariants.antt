use Rattle.std.proofs.Common.{◌≡◌, map}
use Rattle.std.specs.List.{range_with_len}
use Rattle.dm_order.specs.Orders.{is_ordered}
use Rattle.dm_order.proofs.order.ordered_activities.Given as goal

abbrev pub invariant-loop-a : goal.invariant-loop-a
invariant-loop-a l = l.held.items ≡ map (is_ordered l.net l.rows) (range_with_len 0 l.a)

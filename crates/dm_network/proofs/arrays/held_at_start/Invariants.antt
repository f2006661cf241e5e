use Rattle.std.proofs.Common.{◌≡◌, map}
use Rattle.std.specs.List.{range_with_len}
use Rattle.dm_network.specs.Start.{is_start_active}
use Rattle.dm_network.specs.Inside.Stages.{net_with}
use Rattle.dm_network.proofs.arrays.held_at_start.Given as goal

abbrev pub invariant-loop-activity : goal.invariant-loop-activity
invariant-loop-activity l = l.held.items ≡ map (is_start_active (net_with l.events l.activities l.pairs)) (range_with_len 0 l.activity-index)

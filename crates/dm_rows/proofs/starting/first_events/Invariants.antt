use Rattle.std.proofs.Common.{◌≡◌, map}
use Rattle.std.specs.List.{range_with_len}
use Rattle.dm_network.specs.Start.{starts_small_first}
use Rattle.dm_rows.specs.Inside.Standings.{decided_at_start}
use Rattle.dm_rows.proofs.starting.first_events.Given as goal

abbrev pub invariant-loop-p : goal.invariant-loop-p
invariant-loop-p l = l.pairs.items ≡ map (λ p. decided_at_start (starts_small_first l.net p)) (range_with_len 0 l.p)

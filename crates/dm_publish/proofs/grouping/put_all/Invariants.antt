use Rattle.std.proofs.Common.{◌≡◌, ◌≤◌, vec_capacity}
use Rattle.std.specs.List.{range_with_len}
use Rattle.dm_publish.specs.Inside.Grouping.{lists}
use Rattle.dm_publish.proofs.grouping.put_all.Given as goal

abbrev pub invariant-loop-place : goal.invariant-loop-place
invariant-loop-place l = (l.listed.items ≡ lists l.net (range_with_len 0 l.place)) × (vec_capacity l.fn.listed ≤ vec_capacity l.listed)

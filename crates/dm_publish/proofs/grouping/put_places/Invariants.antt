use Rattle.std.proofs.Common.{◌≡◌, ◌≤◌, take, vec_capacity}
use Rattle.dm_publish.specs.Inside.Grouping.{lists}
use Rattle.dm_publish.proofs.grouping.put_places.Given as goal

abbrev pub invariant-loop-place : goal.invariant-loop-place
invariant-loop-place l = (l.listed.items ≡ lists l.net (take l.place-index l.places)) × (vec_capacity l.fn.listed ≤ vec_capacity l.listed)

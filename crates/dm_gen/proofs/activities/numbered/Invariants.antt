use Rattle.std.proofs.Common.{◌≡◌, ◌+◌, ◌++◌, drop}
use Rattle.dm_gen.specs.Activities.{numbered_from}
use Rattle.dm_gen.proofs.activities.numbered.Given as goal

abbrev pub invariant-loop-place : goal.invariant-loop-place
invariant-loop-place l = l.rows.items ++ numbered_from (l.place + 1) (drop l.place l.links) ≡ numbered_from 1 l.links

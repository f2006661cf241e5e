use Rattle.std.proofs.Common.{◌≡◌, [], map}
use Rattle.std.proofs.Math.ListN.{replicate}
use Rattle.dm_restore.proofs.rounds.no_items.Given as goal

abbrev pub invariant-loop-feed : goal.invariant-loop-feed
invariant-loop-feed l = map (λ log. log.items) l.logs.items ≡ replicate l._feed []

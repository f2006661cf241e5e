use Rattle.std.proofs.Common.{ℕ, ◌≡◌, ◌<◌}
use Rattle.std.specs.Prelude.{slice_index_or}
use Rattle.dm_publish.specs.Inside.Changes.{no_listed}
use Rattle.dm_publish.proofs.grouping.leading.Given as goal

abbrev pub invariant-loop-i : goal.invariant-loop-i
invariant-loop-i l = (k : ℕ) → k < l.i → (slice_index_or l.listed k no_listed).stop.0 ≡ l.stop.0

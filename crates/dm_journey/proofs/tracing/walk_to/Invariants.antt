use Rattle.std.proofs.Common.{ℕ, ◌<◌, Bool, length, slice_index, reverse}
use Rattle.dm_journey.specs.Inside.Reaching.{reach_at, IsExactly, AreReached, IsTracedFrom}
use Rattle.dm_journey.proofs.tracing.walk_to.Given as goal

abbrev pub invariant-loop-a : goal.invariant-loop-a
invariant-loop-a l = record {
  is_event : l.event < length l.net.events;
  traced : (n : ℕ) (begins usable : ℕ → Bool) → IsExactly (reach_at l.reached l.last) n →
      AreReached l.net begins usable l.search.ranks l.reached →
      IsTracedFrom l.net usable l.reached l.event l.last (reverse l.walk.items) n;
}

abbrev pub decreases-loop-a : goal.decreases-loop-a
decreases-loop-a l = slice_index l.search.ranks l.event

use Rattle.std.proofs.Common.{ℕ, ◌≡◌, ◌<◌, true, length}
use Rattle.dm_network.specs.Net.{activity_at, is_change}
use Rattle.dm_marks.specs.Marked.{is_marked}
use Rattle.dm_evaluate.proofs.marks.mark_changes.Given as goal

abbrev pub invariant-loop-a : goal.invariant-loop-a
invariant-loop-a l = record {
  size : length l.changes ≡ length l.initial.changes;
  marked : (a : ℕ) → a < l.a → is_change (activity_at l.net a).kind ≡ true → is_marked l.changes a ≡ true;
}

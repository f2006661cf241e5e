use Rattle.std.proofs.Common.{ℕ, ◌≡◌, ◌<◌, true, length}
use Rattle.dm_marks.specs.Marked.{is_marked}
use Rattle.dm_marks.proofs.marks.Marks.mark_all.Given as goal

abbrev pub invariant-loop-place : goal.invariant-loop-place
invariant-loop-place l = record {
  marked : (k : ℕ) → k < l.place → is_marked l.self k ≡ true;
  as_many : length l.self ≡ length l.initial.self;
}

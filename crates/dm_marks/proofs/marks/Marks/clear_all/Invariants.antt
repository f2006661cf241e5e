use Rattle.std.proofs.Common.{ℕ, ◌≡◌, ◌<◌, ◌-◌, false, length}
use Rattle.dm_marks.specs.Marked.{is_marked}
use Rattle.dm_marks.proofs.marks.Marks.clear_all.Given as goal

abbrev pub invariant-loop-place : goal.invariant-loop-place
invariant-loop-place l = record {
  marked : (k : ℕ) → k < l.start → is_marked l.self k ≡ false;
  as_many : length l.self ≡ length l.initial.self;
}

abbrev pub decreases-loop-place : goal.decreases-loop-place
decreases-loop-place l = length l.self - l.start

use Rattle.std.proofs.Common.{ℕ, ◌≡◌, true, drop}
use Rattle.std.specs.Prelude.{Contains}
use Rattle.dm_marks.specs.Marked.{is_marked}
use Rattle.dm_marks.proofs.place_set.clear_at.Given as goal

abbrev pub invariant-loop-place : goal.invariant-loop-place
invariant-loop-place l = (k : ℕ) → is_marked l.flags k ≡ true → Contains (drop l.place-index l.places) k

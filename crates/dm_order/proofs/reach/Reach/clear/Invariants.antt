use Rattle.std.proofs.Common.{◌≡◌, ℕ, ◌<◌, ◌≤◌, length, slice_index_or, None}
use Rattle.dm_order.proofs.reach.Reach.clear.Given as goal

abbrev pub invariant-loop-place : goal.invariant-loop-place
invariant-loop-place l = record {
  as_many : length l.self.causes.items ≡ length l.initial.self.causes.items;
  none : (k : ℕ) → l.low < k → k ≤ l.place → slice_index_or l.self.causes.items k None ≡ None;
}

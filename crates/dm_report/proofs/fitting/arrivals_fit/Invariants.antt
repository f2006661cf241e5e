use Rattle.std.proofs.Common.{ℕ, ◌<◌, ◌≤◌, get_or}
use Rattle.dm_feed.specs.Parts.{largest_id}
use Rattle.dm_report.proofs.fitting.arrivals_fit.Given as goal

abbrev pub invariant-loop-id : goal.invariant-loop-id
invariant-loop-id l = (k : ℕ) (d : _) → k < l.id-index → (get_or l.ids k d).0 ≤ largest_id

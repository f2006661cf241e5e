use Rattle.std.proofs.Common.{ℕ, ◌≡◌, ◌<◌, get_or}
use Rattle.dm_rows.specs.Timetable.{span_of}
use Rattle.dm_check_times.proofs.rows.fill_spans.Given as goal

abbrev pub invariant-loop-a : goal.invariant-loop-a
invariant-loop-a l = (k : ℕ) → k < l.a → get_or l.spans k 0 ≡ span_of l.net l.rows k

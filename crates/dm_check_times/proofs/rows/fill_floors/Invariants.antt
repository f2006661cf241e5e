use Rattle.std.proofs.Common.{ℕ, ◌≡◌, ◌<◌, get_or}
use Rattle.dm_rows.specs.Timetable.{floor_of}
use Rattle.dm_check_times.proofs.rows.fill_floors.Given as goal

abbrev pub invariant-loop-i : goal.invariant-loop-i
invariant-loop-i l = (k : ℕ) → k < l.i → get_or l.times k 0 ≡ floor_of l.net l.rows k

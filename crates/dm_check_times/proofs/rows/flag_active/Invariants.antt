use Rattle.std.proofs.Common.{ℕ, ◌≡◌, ◌<◌}
use Rattle.dm_network.specs.Held.{is_held}
use Rattle.dm_rows.specs.Active.{is_active}
use Rattle.dm_check_times.proofs.rows.flag_active.Given as goal

abbrev pub invariant-loop-a : goal.invariant-loop-a
invariant-loop-a l = (k : ℕ) → k < l.a → is_held l.held k ≡ is_active l.net l.rows k

use Rattle.std.proofs.Common.{◌≡◌, map, filter}
use Rattle.std.specs.List.{range_with_len}
use Rattle.dm_rows.specs.Decide.{is_free_change}
use Rattle.dm_waitrule.specs.Inside.Keyed.{keyed}
use Rattle.dm_waitrule.proofs.order.free_changes.Given as goal

abbrev pub invariant-loop-act : goal.invariant-loop-act
invariant-loop-act l = l.changes.items ≡ map (keyed l.net) (filter (is_free_change l.net l.rows) (range_with_len 0 l.act))

use Rattle.std.proofs.Common.{◌≡◌, take}
use Rattle.dm_rows.specs.Rows.{IsSized}
use Rattle.dm_waitrule.specs.Rules.{with_dropped}
use Rattle.dm_waitrule.proofs.choosing.drop_each.Given as goal

abbrev pub invariant-loop-act : goal.invariant-loop-act
invariant-loop-act l = record { rows : l.rows ≡ with_dropped l.fn.rows (take l.act-index l.order); sized : IsSized l.net l.rows }

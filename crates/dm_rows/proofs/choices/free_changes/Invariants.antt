use Rattle.std.proofs.Common.{[]}
use Rattle.dm_rows.specs.Decide.{is_free_change, change_choice}
use Rattle.dm_rows.proofs.Choosing.{IsListed}
use Rattle.dm_rows.proofs.choices.free_changes.Given as goal

abbrev pub invariant-loop-a : goal.invariant-loop-a
invariant-loop-a l = IsListed (is_free_change l.net l.rows) (change_choice l.net) [] l.a l.choices.items

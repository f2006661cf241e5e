use Rattle.dm_check_times.proofs.Changing.{changes_same, change_added}
use Rattle.dm_check_times.proofs.changes.with_change.Goals as goal
use Rattle.std.proofs.Common.{sym, ◌∙◌}

pub returns-else-is_change : goal.returns-else-is_change
returns-else-is_change c = changes_same c.args.net.now c.args.a c.args.changes.items (sym c.is_change.ensures ∙ c.if-is_change.false) c.requires.changes

pub returns-then-is_change : goal.returns-then-is_change
returns-then-is_change c = change_added c.args.net.now c.args.a c.args.changes.items c.pushed.result c.requires.changes c.pushed.ensures

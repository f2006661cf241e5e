use Rattle.dm_check_times.specs.Changes.{AreChangesTo}
use Rattle.dm_check_times.proofs.changes.changes_of.Given as goal

abbrev pub invariant-loop-a : goal.invariant-loop-a
invariant-loop-a l = AreChangesTo l.net l.a l.changes.items

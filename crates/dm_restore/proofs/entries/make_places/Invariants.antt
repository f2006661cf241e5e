use Rattle.std.proofs.Common.{◌-◌, length}
use Rattle.dm_restore.specs.Inside.Entering.{KeepsEntries}
use Rattle.dm_restore.proofs.entries.make_places.Given as goal

abbrev pub invariant-loop-entries : goal.invariant-loop-entries
invariant-loop-entries l = KeepsEntries l.fn.entries.items l.entries.items

abbrev pub decreases-loop-entries : goal.decreases-loop-entries
decreases-loop-entries l = l.count - length l.entries.items

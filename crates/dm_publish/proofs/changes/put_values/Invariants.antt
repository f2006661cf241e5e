use Rattle.std.proofs.Common.{◌≤◌, vec_capacity}
use Rattle.dm_publish.specs.Inside.Changes.{AreWritten}
use Rattle.dm_publish.proofs.changes.put_values.Given as goal

abbrev pub invariant-loop-event : goal.invariant-loop-event
invariant-loop-event g l = AreWritten l.last.items l.values l.listed l.event-index × (vec_capacity l.initial.last ≤ vec_capacity l.last)

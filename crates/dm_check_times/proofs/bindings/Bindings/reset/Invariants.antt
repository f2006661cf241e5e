use Rattle.std.proofs.Common.{◌≡◌, ◌-◌, length}
use Rattle.dm_check_times.specs.Noting.{NotesMoves}
use Rattle.dm_check_times.specs.Inside.Spreading.{IsResetting}
use Rattle.dm_check_times.proofs.bindings.Bindings.reset.Given as goal

abbrev pub invariant-loop-event : goal.invariant-loop-event
invariant-loop-event l = record {
  resetting : IsResetting l.self.net.now l.self.held.now l.floors l.start l.initial.stale l.stale l.initial.times l.times l.due;
  as_many_due : length l.due ≡ length l.initial.due;
  notes : NotesMoves l.initial.times l.times l.initial.moved.flags l.moved.flags;
}

abbrev pub decreases-loop-event : goal.decreases-loop-event
decreases-loop-event l = length l.stale - l.start

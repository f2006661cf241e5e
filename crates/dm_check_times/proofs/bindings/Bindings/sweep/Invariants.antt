use Rattle.std.proofs.Common.{ℕ, ◌≡◌, ◌-◌, ◌≤◌, length}
use Rattle.dm_check_times.specs.Binding.{graph_with}
use Rattle.dm_check_times.specs.Noting.{NotesMoves}
use Rattle.dm_check_times.specs.Inside.Rising.{HasSwept, AreMet, AreWithin, latest}
use Rattle.dm_check_times.proofs.bindings.Bindings.sweep.Given as goal

abbrev pub invariant-loop-event : goal.invariant-loop-event
invariant-loop-event l = record {
  swept : (floor : ℕ → ℕ) → AreMet (graph_with l.self.net.now l.self.held.now l.self.spans.now floor) l.initial.times l.initial.due → HasSwept (graph_with l.self.net.now l.self.held.now l.self.spans.now floor) l.start l.initial.times l.times l.due;
  within : AreWithin l.times (latest l.round l.start);
  as_many_times : length l.times ≡ length l.initial.times;
  as_many_flags : length l.due ≡ length l.initial.due;
  inside : l.start ≤ length l.due;
  notes : NotesMoves l.initial.times l.times l.initial.moved.flags l.moved.flags;
}

abbrev pub decreases-loop-event : goal.decreases-loop-event
decreases-loop-event l = length l.due - l.start

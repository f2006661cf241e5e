use Rattle.std.proofs.Common.{ℕ}
use Rattle.dm_check_times.specs.Binding.{graph_with}
use Rattle.dm_check_times.specs.Noting.{NotesMoves}
use Rattle.dm_check_times.specs.Inside.Rising.{HasRelaxed}
use Rattle.dm_check_times.proofs.bindings.Bindings.relax_from.Given as goal

abbrev pub invariant-loop-a : goal.invariant-loop-a
invariant-loop-a l = record {
  relaxed : (floor : ℕ → ℕ) → HasRelaxed (graph_with l.self.net.now l.self.held.now l.self.spans.now floor) l.event l.from l.row l.a-index l.initial.times l.times l.initial.due l.due;
  notes : NotesMoves l.initial.times l.times l.initial.moved.flags l.moved.flags;
}

use Rattle.std.proofs.Common.{ℕ, ◌≡◌, length}
use Rattle.dm_check_times.specs.Binding.{graph_with, MayBegin}
use Rattle.dm_check_times.specs.Inside.Rising.{AreWithin, latest}
use Rattle.dm_check_times.specs.Noting.{NotesMoves}
use Rattle.dm_check_times.proofs.Rounding.{HaveRounds}
use Rattle.dm_check_times.proofs.bindings.Bindings.raise.Given as goal

abbrev pub invariant-loop-round : goal.invariant-loop-round
invariant-loop-round l = record {
  rounds : (floor : ℕ → ℕ) → MayBegin (graph_with l.self.net.now l.self.held.now l.self.spans.now floor) l.initial.times l.initial.due → HaveRounds (graph_with l.self.net.now l.self.held.now l.self.spans.now floor) l.round l.times l.due;
  within : AreWithin l.times (latest l.round 0);
  as_many_times : length l.times ≡ length l.initial.times;
  as_many_flags : length l.due ≡ length l.initial.due;
  notes : NotesMoves l.initial.times l.times l.initial.moved.flags l.moved.flags;
}

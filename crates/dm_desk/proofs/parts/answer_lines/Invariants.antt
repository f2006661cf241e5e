use Rattle.std.proofs.Common.{◌≤◌, length}
use Rattle.dm_desk.specs.Inside.Parts.{HasAnswered}
use Rattle.dm_desk.proofs.parts.answer_lines.Given as goal

abbrev pub invariant-loop-answered : goal.invariant-loop-answered
invariant-loop-answered g l = record {
  so_far : HasAnswered l.part l.rest l.fn.passed l.lines l.answered (g.D.Desk.value l.initial.desk) (g.D.Desk.value l.desk) l.feed l.initial.log.items l.log.items;
  few : l.answered ≤ l.batch;
}

abbrev pub decreases-loop-answered : goal.decreases-loop-answered
decreases-loop-answered g l = length l.rest

use Rattle.std.proofs.Common.{None}
use Rattle.dm_desk.specs.Answered.{AnswersBatch}
use Rattle.dm_desk.proofs.batches.answer_batch.Given as goal

abbrev pub invariant-loop : goal.invariant-loop
invariant-loop g l =
    AnswersBatch g.S.Source.left g.S.Source.is_sound l.initial.reader l.reader (g.D.Desk.value l.initial.desk) (g.D.Desk.value l.desk) l.feed l.counter l.initial.log.items l.log.items None
    × (g.S.Source.is_sound l.initial.reader.source → g.S.Source.is_sound l.reader.source)

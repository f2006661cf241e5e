use Rattle.dm_records.specs.Readings.{solved_opening_of}
use Rattle.dm_cert.proofs.SolvedTold.{told_has_few_ids}
use Rattle.dm_records.specs.RunLines.{heading_of}
use Rattle.dm_check.proofs.SolvedBlocks.{solution_stopped}
use Rattle.dm_check.proofs.told_items.Logs.solution_told.Goals as goal

pub solution_shown-requires : goal.solution_shown-requires
solution_shown-requires c = record {
  few = told_has_few_ids c.args.opening.now.entry (heading_of (solved_opening_of c.args.opening.now)) c.in-Ok.plan c.args.lines.now c.solved_told.new.lines c.in-Ok.ensures;
}

pub returns-in-Ok-clause-tells : goal.returns-in-Ok-clause-tells
returns-in-Ok-clause-tells c = λ before past. c.solution_shown.ensures.tells before c.args.lines.now c.solved_told.new.lines c.in-Ok.ensures past

pub returns-in-Err-clause-tells : goal.returns-in-Err-clause-tells
returns-in-Err-clause-tells c = λ before past.
    solution_stopped c.args.self.now.replay.journal.setting c.args.self.now.replay.journal.history c.args.feed before c.args.first c.args.past.now c.args.self.now.named.items
    (solved_opening_of c.args.opening.now) c.args.lines.now c.solved_told.new.lines c.solved_told.new.lines c.in-Err.stop c.in-Err.ensures

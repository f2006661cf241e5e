use Rattle.dm_cert.specs.SolvedRead.{TellsSolvedBehind}
use Rattle.dm_records.specs.Readings.{solved_opening_of}
use Rattle.dm_parts.specs.declared.parts.PlanByParts.{PlanByParts}
use Rattle.dm_records.specs.RunLines.{heading_of}
use Rattle.dm_check.proofs.SolvedBlocks.{stopped}
use Rattle.dm_check.proofs.told_plans.solved_told.Goals as goal

pub returns-in-Err : goal.returns-in-Err
returns-in-Err c =
    stopped {X = PlanByParts} (TellsSolvedBehind c.args.opening.now.entry (heading_of (solved_opening_of c.args.opening.now))) (λ plan. plan) c.args.lines.now c.solved_behind.new.lines c.in-Err.fault
    c.stop_of.result c.stop_of.ensures c.in-Err.ensures

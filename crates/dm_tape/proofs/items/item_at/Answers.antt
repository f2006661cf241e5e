use Rattle.std.proofs.Common.{Ok, subst}
use Rattle.dm_records.specs.RunLines.{planned, solved}
use Rattle.dm_records.specs.Readings.{opening_of, solved_opening_of}
use Rattle.dm_records.specs.declared.items.LogLine.{LogLine}
use Rattle.dm_tape.specs.Inside.Fronts.{ReadsFront}
use Rattle.dm_tape.proofs.Steps.{item_alone, item_large, item_on}
use Rattle.dm_tape.proofs.items.item_at.Goals as goal

pub returns-in-Item : goal.returns-in-Item
returns-in-Item c =
    item_alone c.args.lines.now c.front_at.new.lines c.in-Item.item (subst (λ (r : LogLine). ReadsFront c.args.lines.now c.front_at.new.lines (Ok r)) c.in-Item.is c.in-Ok.ensures)

pub returns-in-TooLarge : goal.returns-in-TooLarge
returns-in-TooLarge c =
    item_large c.args.lines.now c.front_at.new.lines c.line-first.result c.misshapen.result c.line-first.ensures
    (subst (λ (r : LogLine). ReadsFront c.args.lines.now c.front_at.new.lines (Ok r)) c.in-TooLarge.is c.in-Ok.ensures) c.misshapen.ensures

pub returns-in-Planned : goal.returns-in-Planned
returns-in-Planned c =
    item_on c.args.lines.now c.front_at.new.lines c.plan_behind.new.lines c.line-first.result (planned (opening_of c.in-Planned.opening)) c.plan_behind.result c.line-first.ensures
    (subst (λ (r : LogLine). ReadsFront c.args.lines.now c.front_at.new.lines (Ok r)) c.in-Planned.is c.in-Ok.ensures) c.plan_behind.ensures

pub returns-in-Solved : goal.returns-in-Solved
returns-in-Solved c =
    item_on c.args.lines.now c.front_at.new.lines c.solution_behind.new.lines c.line-first.result (solved (solved_opening_of c.in-Solved.opening)) c.solution_behind.result c.line-first.ensures
    (subst (λ (r : LogLine). ReadsFront c.args.lines.now c.front_at.new.lines (Ok r)) c.in-Solved.is c.in-Ok.ensures) c.solution_behind.ensures

use Rattle.std.proofs.Common.{ℕ, Option, None, Some, Ok, Err, subst}
use Rattle.dm_tree.specs.declared.plans.Plan.{Plan}
use Rattle.dm_records.specs.Readings.{opening_of}
use Rattle.dm_check.specs.Judged.{TellsBlock}
use Rattle.dm_check.proofs.Blocks.{block_stopped, no_plan_shown}
use Rattle.dm_check.proofs.told_items.Logs.plan_told.Goals as goal

pub returns-in-Err-clause-tells : goal.returns-in-Err-clause-tells
returns-in-Err-clause-tells c = λ before past.
    block_stopped c.args.self.now.replay.journal.setting c.args.self.now.replay.journal.history c.args.feed before c.args.first c.args.past.now c.args.self.now.named.items (opening_of c.args.opening.now) c.args.lines.now c.block_told.new.lines c.block_told.new.lines
    c.in-Err.stop (subst (λ (v : ℕ). TellsBlock v (opening_of c.args.opening.now) c.args.lines.now c.block_told.new.lines (Err c.in-Err.stop)) c.journal-journal.ensures.version c.in-Err.ensures)

pub returns-in-Some-clause-tells : goal.returns-in-Some-clause-tells
returns-in-Some-clause-tells c = λ before past.
    c.shown_told.ensures.tells before c.args.lines.now c.block_told.new.lines
    (subst (λ (v : ℕ). TellsBlock v (opening_of c.args.opening.now) c.args.lines.now c.block_told.new.lines (Ok (Some c.in-Some.plan))) c.journal-journal.ensures.version
    (subst (λ (o : Option Plan). TellsBlock c.journal-journal.result.setting.version (opening_of c.args.opening.now) c.args.lines.now c.block_told.new.lines (Ok o)) c.in-Some.is c.in-Ok.ensures)) past

pub returns-in-None-clause-tells : goal.returns-in-None-clause-tells
returns-in-None-clause-tells c = λ before past.
    no_plan_shown c.args.self.now.replay.journal.setting c.args.self.now.replay.journal.history c.args.feed before c.args.first c.args.past.now c.args.self.now.named.items (opening_of c.args.opening.now) c.args.lines.now c.block_told.new.lines c.block_told.new.lines
    (subst (λ (v : ℕ). TellsBlock v (opening_of c.args.opening.now) c.args.lines.now c.block_told.new.lines (Ok None)) c.journal-journal.ensures.version
    (subst (λ (o : Option Plan). TellsBlock c.journal-journal.result.setting.version (opening_of c.args.opening.now) c.args.lines.now c.block_told.new.lines (Ok o)) c.in-None.is c.in-Ok.ensures))

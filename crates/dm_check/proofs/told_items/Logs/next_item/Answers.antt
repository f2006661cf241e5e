use Rattle.std.proofs.Common.{ℕ, Ok, Err, subst}
use Rattle.dm_records.specs.Readings.{IsReadAs}
use Rattle.dm_records.specs.RunLines.{IsItemLine}
use Rattle.dm_check.specs.FalseRecords.{Reads}
use Rattle.dm_check.specs.Judged.{JudgedThat}
use Rattle.dm_check.proofs.Items.{item_stop, item_whole, item_planned, item_solved}
use Rattle.dm_check.proofs.Truth.TooLarge.{item_large, whole_spelled}
use Rattle.dm_check.proofs.told_items.Logs.next_item.Goals as goal

pub returns-in-Err-clause-tells : goal.returns-in-Err-clause-tells
returns-in-Err-clause-tells c = λ before past.
    item_stop c.args.self.now.replay.journal.setting c.args.self.now.replay.journal.history c.args.feed before c.args.past.now c.args.self.now.named.items c.args.self.now.named.items c.args.lines.now c.item_told.new.lines c.item_told.new.lines c.in-Err.stop
    (subst (λ (v : ℕ). JudgedThat (Reads (IsItemLine v)) IsReadAs c.args.lines.now c.item_told.new.lines (Err c.in-Err.stop)) c.journal-journal.ensures.version c.in-Err.ensures)

pub whole_told-requires : goal.whole_told-requires
whole_told-requires c = whole_spelled c.journal-journal.result.setting.version c.args.lines.now c.item_told.new.lines c.in-Ok.said c.in-Item.item c.in-Ok.ensures c.in-Item.is

pub returns-in-Item-clause-tells : goal.returns-in-Item-clause-tells
returns-in-Item-clause-tells c = λ before past.
    item_whole c.args.self.now.replay.journal.setting c.args.self.now.replay.journal.history c.args.feed before c.whole_told.new.past c.args.self.now.named.items c.whole_told.new.self.named.items c.args.lines.now c.item_told.new.lines c.line-first.result c.in-Ok.said c.in-Item.item c.whole_told.result
    c.line-first.ensures (subst (λ (v : ℕ). JudgedThat (Reads (IsItemLine v)) IsReadAs c.args.lines.now c.item_told.new.lines (Ok c.in-Ok.said)) c.journal-journal.ensures.version c.in-Ok.ensures) c.in-Item.is (c.whole_told.ensures.tells before c.item_told.new.lines past)

pub returns-in-TooLarge-clause-tells : goal.returns-in-TooLarge-clause-tells
returns-in-TooLarge-clause-tells c = λ before past.
    item_large c.args.self.now.replay.journal.setting c.args.self.now.replay.journal.history c.args.feed before c.args.past.now c.args.self.now.named.items c.args.self.now.named.items c.requires c.args.lines.now c.item_told.new.lines c.line-first.result c.in-Ok.said c.line-first.ensures
    (subst (λ (v : ℕ). JudgedThat (Reads (IsItemLine v)) IsReadAs c.args.lines.now c.item_told.new.lines (Ok c.in-Ok.said)) c.journal-journal.ensures.version c.in-Ok.ensures) c.in-TooLarge.is

pub returns-in-Planned-clause-tells : goal.returns-in-Planned-clause-tells
returns-in-Planned-clause-tells c = λ before past.
    item_planned c.args.self.now.replay.journal.setting c.args.self.now.replay.journal.history c.args.feed before c.plan_told.new.past c.args.self.now.named.items c.plan_told.new.self.named.items c.args.lines.now c.item_told.new.lines c.plan_told.new.lines c.line-first.result c.in-Ok.said c.in-Planned.opening
    c.plan_told.result c.line-first.ensures (subst (λ (v : ℕ). JudgedThat (Reads (IsItemLine v)) IsReadAs c.args.lines.now c.item_told.new.lines (Ok c.in-Ok.said)) c.journal-journal.ensures.version c.in-Ok.ensures) c.in-Planned.is (c.plan_told.ensures.tells before past)

pub returns-clause-tells : goal.returns-clause-tells
returns-clause-tells c = λ before past.
    item_solved c.args.self.now.replay.journal.setting c.args.self.now.replay.journal.history c.args.feed before c.solution_told.new.past c.args.self.now.named.items c.solution_told.new.self.named.items c.args.lines.now c.item_told.new.lines c.solution_told.new.lines c.line-first.result c.in-Ok.said
    c.in-Solved.opening c.solution_told.result c.line-first.ensures (subst (λ (v : ℕ). JudgedThat (Reads (IsItemLine v)) IsReadAs c.args.lines.now c.item_told.new.lines (Ok c.in-Ok.said)) c.journal-journal.ensures.version c.in-Ok.ensures) c.in-Solved.is
    (c.solution_told.ensures.tells before past)

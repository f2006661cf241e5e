use Rattle.std.proofs.Common.{◌<◌, length, take, Bool, true, false, refl, subst, ◌∙◌, arith}
use Rattle.dm_check_answers.specs.Judging.{JournalValue}
use Rattle.dm_check.specs.Inside.TrueLogs.{IsNextOn}
use Rattle.dm_check.proofs.Items.{keeps_none}
use Rattle.dm_check.proofs.Truth.InMemory.{item_more, item_untrue, items_true}
use Rattle.dm_check.proofs.told_items.Logs.is_true_log.Goals as goal

pub loop-item-init : goal.loop-item-init
loop-item-init c = record { so_far = record { kept = keeps_none c.new-past.result c.args.self.now.named.items c.new-past.ensures; each = tt }; same = refl }

pub loop-item-preserved : goal.loop-item-preserved
loop-item-preserved c =
    let s = c.args.self.now.replay.journal.setting in
    let history = c.args.self.now.replay.journal.history in
    let items = c.args.items.now in
    let i = c.loop-item.item-index in
    let x = c.item-item.result in
    let low : i < length items = omega arith in
    let before = c.loop-item.self.named.items in
    let after = c.is_true_item.new.self.named.items in
    let new = c.is_true_item.new.past in
    let told = subst (λ (b : Bool). IsNextOn c.loop-item.self.replay.journal.setting c.loop-item.self.replay.journal.history c.args.feed (take i items) x new before after b) c.in-Ok-true.field-0-test
    (c.in-Ok-true.ensures.tells (take i items) c.loop-item.invariant.so_far.kept.past_is) in
    let on = subst (λ (j : JournalValue). IsNextOn j.setting j.history c.args.feed (take i items) x new before after true) c.loop-item.invariant.same told in
    record {
      so_far = item_more s history c.args.feed items i x low c.item-item.is c.loop-item.past new c.args.self.now.named.items before after c.loop-item.invariant.so_far on.0 on.1;
      same = c.in-Ok-true.ensures.same ∙ c.loop-item.invariant.same;
    }

pub returns-in-Ok-false-clause-tells : goal.returns-in-Ok-false-clause-tells
returns-in-Ok-false-clause-tells c = λ place at.
    let s = c.args.self.now.replay.journal.setting in
    let history = c.args.self.now.replay.journal.history in
    let items = c.args.items.now in
    let i = c.loop-item.item-index in
    let x = c.item-item.result in
    let low : i < length items = omega arith in
    let before = c.loop-item.self.named.items in
    let after = c.is_true_item.new.self.named.items in
    let new = c.is_true_item.new.past in
    let told = subst (λ (b : Bool). IsNextOn c.loop-item.self.replay.journal.setting c.loop-item.self.replay.journal.history c.args.feed (take i items) x new before after b) c.in-Ok-false.field-0-test
    (c.in-Ok-false.ensures.tells (take i items) c.loop-item.invariant.so_far.kept.past_is) in
    let none = subst (λ (j : JournalValue). IsNextOn j.setting j.history c.args.feed (take i items) x new before after false) c.loop-item.invariant.same told in
    item_untrue s history c.args.feed items i x low c.item-item.is place at none

pub returns-clause-tells : goal.returns-clause-tells
returns-clause-tells c = λ place at.
    items_true c.args.self.now.replay.journal.setting c.args.self.now.replay.journal.history c.args.feed place c.loop-item.item-index c.args.items.now c.loop-item.past c.args.self.now.named.items c.loop-item.self.named.items at (omega arith)
    c.loop-item.invariant.so_far

use Rattle.std.proofs.Common.{◌<◌, ◌≤◌, List, length, Bool, true, false, refl, subst, ◌∙◌, arith}
use Rattle.std.proofs.lemmas.List.{take_all}
use Rattle.dm_cert.specs.declared.replies.LogItem.{LogItem}
use Rattle.dm_check_rows.specs.Claims.{Tells}
use Rattle.dm_check_answers.specs.Judging.{JournalValue}
use Rattle.dm_check.specs.Inside.TrueLogs.{LogIsOn}
use Rattle.dm_check.proofs.Flags.{AreAll}
use Rattle.dm_check.proofs.Truth.InMemory.{LogsSoFar, no_logs, log_more, log_untrue, are_true_where, are_untrue}
use Rattle.dm_check.proofs.told_items.Logs.are_true.Goals as goal

pub loop-place-init : goal.loop-place-init
loop-place-init c = record { so_far = no_logs c.args.self.now.replay.journal.setting c.args.self.now.replay.journal.history c.args.self.now.named.items c.requires.none; same = refl }

pub loop-place-preserved : goal.loop-place-preserved
loop-place-preserved c =
    let s = c.args.self.now.replay.journal.setting in
    let history = c.args.self.now.replay.journal.history in
    let logs = c.args.logs.now in
    let i = c.loop-place.place in
    let x = c.index-logs-place.result in
    let low : i < length logs = omega arith in
    let before = c.loop-place.self.named.items in
    let after = c.is_true_log.new.self.named.items in
    let told = subst (λ (b : Bool). LogIsOn c.loop-place.self.replay.journal.setting c.loop-place.self.replay.journal.history i c.as_slice.result.now before after b) c.in-Ok-true.field-0-test
    (c.in-Ok-true.ensures.tells i refl) in
    let here = subst (λ (j : JournalValue). LogIsOn j.setting j.history i c.as_slice.result.now before after true) c.loop-place.invariant.same told in
    let on = subst (λ (items : List LogItem). LogIsOn s history i items before after true) c.as_slice.ensures here in
    record {
      so_far = log_more s history logs i x low c.index-logs-place.is c.args.self.now.named.items before after c.loop-place.invariant.so_far on;
      same = c.in-Ok-true.ensures.same ∙ c.loop-place.invariant.same;
    }

pub returns-in-Ok-false : goal.returns-in-Ok-false
returns-in-Ok-false c =
    let s = c.args.self.now.replay.journal.setting in
    let history = c.args.self.now.replay.journal.history in
    let logs = c.args.logs.now in
    let i = c.loop-place.place in
    let x = c.index-logs-place.result in
    let low : i < length logs = omega arith in
    let before = c.loop-place.self.named.items in
    let after = c.is_true_log.new.self.named.items in
    let told = subst (λ (b : Bool). LogIsOn c.loop-place.self.replay.journal.setting c.loop-place.self.replay.journal.history i c.as_slice.result.now before after b) c.in-Ok-false.field-0-test
    (c.in-Ok-false.ensures.tells i refl) in
    let here = subst (λ (j : JournalValue). LogIsOn j.setting j.history i c.as_slice.result.now before after false) c.loop-place.invariant.same told in
    let none = subst (λ (items : List LogItem). LogIsOn s history i items before after false) c.as_slice.ensures here in
    are_untrue s history logs (log_untrue s history logs i x low c.index-logs-place.is none)

pub returns : goal.returns
returns c =
    let s = c.args.self.now.replay.journal.setting in
    let history = c.args.self.now.replay.journal.history in
    let logs = c.args.logs.now in
    let flags = c.args.self.now.named.items in
    let named = c.loop-place.self.named.items in
    let late : length logs ≤ c.loop-place.place = omega (arith, c.loop-place-test.false) in
    are_true_where s history logs flags named c.are_all.result c.requires.size
    (subst (LogsSoFar s history flags named) (take_all c.loop-place.place logs late) c.loop-place.invariant.so_far)
    (subst (λ (ns : List Bool). Tells (AreAll ns) c.are_all.result) c.deref.ensures.value c.are_all.ensures)

use Rattle.std.proofs.Common.{Ok, Err, refl, sym, subst, ◌∙◌, arith}
use Rattle.dm_check_answers.specs.Judging.{JournalValue}
use Rattle.dm_check.specs.Inside.Sound.{IsSound}
use Rattle.dm_check.specs.Judged.{LogOn}
use Rattle.dm_check.proofs.Logs.{logs_begin, logs_go, logs_stop, logs_few, logs_all}
use Rattle.dm_check.proofs.told_items.Logs.all_logs.Goals as goal

pub loop-place-init : goal.loop-place-init
loop-place-init c = record { told = logs_begin c.args.self.now.replay.journal.setting c.args.self.now.replay.journal.history c.args.feeds c.args.lines.now c.args.self.now.named.items c.requires.none; same = refl }

pub next_log-requires : goal.next_log-requires
next_log-requires c = subst (λ (j : JournalValue). IsSound j.setting j.history) (sym c.loop-place.invariant.same) c.requires.sound

pub overflow_add-plans : goal.overflow_add-plans
overflow_add-plans c =
    let had = c.loop-place.invariant.told in
    let at = had.count_is in
    let one = c.in-Ok.ensures.tells had.held (omega (arith, at)) in
    let few = one.holds_of.few in
    let sum = logs_few c.args.self.now.replay.journal.setting c.args.self.now.replay.journal.history c.args.feeds c.args.lines.now c.args.self.now.named.items c.loop-place.lines c.loop-place.place c.loop-place.plans c.loop-place.self.named.items had in
    omega (arith, few, sum)

pub returns-in-Err-clause-tells : goal.returns-in-Err-clause-tells
returns-in-Err-clause-tells c =
    logs_stop c.args.self.now.replay.journal.setting c.args.self.now.replay.journal.history c.args.feeds c.args.lines.now c.args.self.now.named.items c.loop-place.lines c.next_log.new.lines c.next_log.new.lines c.loop-place.place c.loop-place.plans
    c.loop-place.self.named.items c.next_log.new.self.named.items c.next_log.new.self.named.items c.in-Err.stop c.loop-place.invariant.told (omega arith)
    (λ logs at. subst (λ (j : JournalValue). LogOn j.setting j.history logs c.loop-place.lines c.next_log.new.lines c.loop-place.self.named.items c.next_log.new.self.named.items (Err c.in-Err.stop)) c.loop-place.invariant.same (c.in-Err.ensures.tells logs at))

pub returns-in-Err-clause-same : goal.returns-in-Err-clause-same
returns-in-Err-clause-same c = c.in-Err.ensures.same ∙ c.loop-place.invariant.same

pub loop-place-preserved : goal.loop-place-preserved
loop-place-preserved c = record {
  told =
      logs_go c.args.self.now.replay.journal.setting c.args.self.now.replay.journal.history c.args.feeds c.args.lines.now c.args.self.now.named.items c.loop-place.lines c.next_log.new.lines c.loop-place.place c.loop-place.plans c.in-Ok.more
      c.loop-place.self.named.items c.next_log.new.self.named.items c.loop-place.invariant.told (omega arith)
      (λ logs at. subst (λ (j : JournalValue). LogOn j.setting j.history logs c.loop-place.lines c.next_log.new.lines c.loop-place.self.named.items c.next_log.new.self.named.items (Ok c.in-Ok.more)) c.loop-place.invariant.same (c.in-Ok.ensures.tells logs at));
  same = c.in-Ok.ensures.same ∙ c.loop-place.invariant.same;
}

pub returns-clause-tells : goal.returns-clause-tells
returns-clause-tells c =
    logs_all c.args.self.now.replay.journal.setting c.args.self.now.replay.journal.history c.args.feeds c.args.lines.now c.args.self.now.named.items c.loop-place.lines c.loop-place.place c.loop-place.plans c.loop-place.self.named.items c.loop-place.invariant.told (omega arith)

pub returns-clause-same : goal.returns-clause-same
returns-clause-same c = c.loop-place.invariant.same

use Rattle.std.proofs.Common.{◌+◌, ◌≤◌, refl, arith}
use Rattle.dm_desk.proofs.Answering.{none_yet, batch_then, stop_within, stopped, one_more}
use Rattle.dm_desk.proofs.Asking.{still_plans}
use Rattle.dm_desk.proofs.batches.answer_batch.Goals as goal

pub loop-init : goal.loop-init
loop-init g c = (
  none_yet g.S.Source.left g.S.Source.is_sound c.args.reader.now (g.D.Desk.value c.args.desk.now) c.args.feed c.args.log.now.items c.requires.legal c.requires.are_true c.requires.open_still,
  λ s. s,
)

pub returns-in-Stop-clause-answers : goal.returns-in-Stop-clause-answers
returns-in-Stop-clause-answers g c =
    let desk = g.D.Desk.value c.loop.desk in
    let so_far = c.loop.invariant.0 in
    let le : c.loop.counter + 1 ≤ c.args.batch = omega arith in
    let next =
    stopped g.S.Source.left g.S.Source.faults g.S.Source.is_sound c.loop.reader c.next.new.self desk c.args.feed c.loop.log.items c.in-Stop.stop so_far.answers.goes_on.legal so_far.are_true (so_far.is_open refl)
    c.in-Stop.ensures.answers c.in-Stop.ensures.stays_stopped in
    stop_within g.S.Source.left g.S.Source.is_sound c.args.reader.now c.next.new.self (g.D.Desk.value c.args.desk.now) desk c.args.feed (c.loop.counter + 1) c.args.batch c.args.log.now.items c.loop.log.items c.in-Stop.stop le
    (batch_then g.S.Source.left g.S.Source.is_sound c.args.reader.now c.loop.reader c.next.new.self (g.D.Desk.value c.args.desk.now) desk desk c.args.feed c.loop.counter c.args.log.now.items c.loop.log.items c.loop.log.items _ c.loop.invariant.1 so_far next)

pub loop-preserved : goal.loop-preserved
loop-preserved g c =
    let d1 = g.D.Desk.value c.loop.desk in
    let d2 = g.D.Desk.value c.answer.new.desk in
    let so_far = c.loop.invariant.0 in
    let next =
    one_more g.S.Source.left g.S.Source.is_sound c.loop.reader c.next.new.self d1 d2 c.args.feed c.in-Due.line c.in-Due.heard c.loop.log.items c.push.new.self.items
    c.in_ok-item-in-Due.item (so_far.is_open refl) so_far.are_true c.in-Due.ensures.answers c.in-Due.ensures.stays_stopped c.in_ok-push-in-Due.ensures.items (rw c.as_slice.ensures.value at c.in_ok-item-in-Due.ensures) in (
      batch_then g.S.Source.left g.S.Source.is_sound c.args.reader.now c.loop.reader c.next.new.self (g.D.Desk.value c.args.desk.now) d1 d2 c.args.feed c.loop.counter c.args.log.now.items c.loop.log.items c.push.new.self.items _ c.loop.invariant.1 so_far next,
      λ sound. c.in-Due.ensures.stays_sound (c.loop.invariant.1 sound),
    )

pub answer-requires-clause-legal : goal.answer-requires-clause-legal
answer-requires-clause-legal g c = c.loop.invariant.0.answers.goes_on.legal

pub answer-requires-clause-plans : goal.answer-requires-clause-plans
answer-requires-clause-plans g c = still_plans _ _ (g.D.Desk.value c.args.desk.now) (g.D.Desk.value c.loop.desk) c.loop.invariant.0.answers.goes_on c.requires.plans

pub answer-requires-clause-are_true : goal.answer-requires-clause-are_true
answer-requires-clause-are_true g c = rw c.as_slice.ensures.value c.loop.invariant.0.are_true

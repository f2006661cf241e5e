use Rattle.std.proofs.Common.{rules, ◌≡◌, ◌++◌, length, length-append, ap, arith}
use Rattle.std.specs.Prelude.{vec_len}
use Rattle.std.proofs.lemmas.Result.{IfOk-weaker, IfOk-at_ok}
use Rattle.dm_crew.specs.declared.work.Work.{Work}
use Rattle.dm_crew.specs.Inside.Works.{IsReady, IsWorked, AreWorkedEach}
use Rattle.dm_crew.proofs.Loops.{paired_parts, all_of_front, all_of_rest}
use Rattle.dm_crew.proofs.rounds.+sharing.Goals as goal

pub join-first-requires-after_bounds : goal.join-first-requires-after_bounds
join-first-requires-after_bounds g t c κs within =
    let share = c.in_ok-share.share.items in
    let rest = c.in_ok-share.rest.items in
    let front = all_of_front (λ (w : Work _). IsReady c.args.server.now.id c.args.self.now.plans g.P.Seat.base w.feed w.pass w.job.value) share rest c.args.works.items c.in_ok-share.ensures c.requires.ready in
    let back = all_of_rest (λ (w : Work _). IsReady c.args.server.now.id c.args.self.now.plans g.P.Seat.base w.feed w.pass w.job.value) share rest c.args.works.items c.in_ok-share.ensures c.requires.ready in
    (search rules, search rules)

pub returns-clause-len : goal.returns-clause-len
returns-clause-len g t c =
    let share = c.in_ok-share.share in
    let rest = c.in_ok-share.rest in
    let worked = c.in_ok-worked.worked in
    let behind = c.in_ok-behind.behind in
    let first = IfOk-at_ok (λ after. (vec_len after ≡ vec_len share) × AreWorkedEach g.S.Source.left g.S.Source.is_sound c.args.self.now.plans g.P.Seat.base c.args.self.now.batch share.items after.items) c.in_ok-worked.was c.join-first.ensures.first in
    let second = IfOk-at_ok (λ after. (vec_len after ≡ vec_len rest) × AreWorkedEach g.S.Source.left g.S.Source.is_sound c.args.self.now.plans g.P.Seat.base c.args.self.now.batch rest.items after.items) c.in_ok-behind.was c.join-first.ensures.second in
    let front = first.0 in
    let back = second.0 in
    IfOk-weaker c.together.result (λ after. after.items ≡ worked.items ++ behind.items) (λ after. vec_len after ≡ vec_len c.args.works)
    (λ after is. omega (arith, ap length is, length-append worked.items behind.items, after.ok.0, worked.ok.0, behind.ok.0, front, back, ap length c.in_ok-share.ensures, length-append share.items rest.items, share.ok.0, rest.ok.0, c.args.works.ok.0)) c.together.ensures

pub returns-clause-each : goal.returns-clause-each
returns-clause-each g t c =
    let share = c.in_ok-share.share in
    let rest = c.in_ok-share.rest in
    let worked = c.in_ok-worked.worked in
    let behind = c.in_ok-behind.behind in
    let first = IfOk-at_ok (λ after. (vec_len after ≡ vec_len share) × AreWorkedEach g.S.Source.left g.S.Source.is_sound c.args.self.now.plans g.P.Seat.base c.args.self.now.batch share.items after.items) c.in_ok-worked.was c.join-first.ensures.first in
    let second = IfOk-at_ok (λ after. (vec_len after ≡ vec_len rest) × AreWorkedEach g.S.Source.left g.S.Source.is_sound c.args.self.now.plans g.P.Seat.base c.args.self.now.batch rest.items after.items) c.in_ok-behind.was c.join-first.ensures.second in
    let front = first.0 in
    let many : length worked.items ≡ length share.items = omega (arith, worked.ok.0, share.ok.0, front) in
    IfOk-weaker c.together.result (λ after. after.items ≡ worked.items ++ behind.items)
    (λ after. AreWorkedEach g.S.Source.left g.S.Source.is_sound c.args.self.now.plans g.P.Seat.base c.args.self.now.batch c.args.works.items after.items)
    (λ after is.
    paired_parts (λ (w v : Work _). (v.feed ≡ w.feed) × IsWorked g.S.Source.left g.S.Source.is_sound c.args.self.now.plans g.P.Seat.base c.args.self.now.batch w.feed w.pass w.job.value v.pass v.job.value v.answer) c.args.works.items share.items rest.items after.items worked.items behind.items c.in_ok-share.ensures is many first.1 second.1)
    c.together.ensures

use Rattle.std.proofs.Common.{◌≡◌, List, [], ◌∷◌, length, sym, ap, subst, ◌∙◌, arith, length-append}
use Rattle.dm_crew.specs.declared.work.Work.{Work}
use Rattle.dm_crew.specs.Inside.Works.{IsReady, IsWorked, AreWorkedEach}
use Rattle.dm_crew.proofs.Loops.{one_yielded, all_yielded, all_here, paired_more}
use Rattle.dm_crew.proofs.rounds.Crew.work_one_by_one.Goals as goal

pub worked-requires-clause-ready : goal.worked-requires-clause-ready
worked-requires-clause-ready g c =
    all_here (λ (w : Work _). IsReady c.args.server.now.id c.args.self.now.plans g.P.Seat.base w.feed w.pass w.job.value) c.loop-work.yielded c.loop-work.work-iterator.rest.items c.next.new.self.rest.items c.args.works.items c.in-Some.work c.in-Some.ensures.steps.0 c.loop-work.invariant.whole c.requires.ready

pub loop-work-preserved : goal.loop-work-preserved
loop-work-preserved g c =
    let w = c.in-Some.work in
    let inv = c.loop-work.invariant in
    record {
      whole = one_yielded c.loop-work.yielded _ _ c.args.works.items w c.in-Some.ensures.steps.0 inv.whole;
      many = omega (arith, ap length c.in_ok-push.ensures.items, length-append c.loop-work.done.items (c.worked.result ∷ []), length-append c.loop-work.yielded (w ∷ []), inv.many);
      each = paired_more (λ (a b : Work _). (b.feed ≡ a.feed) × IsWorked g.S.Source.left g.S.Source.is_sound c.args.self.now.plans g.P.Seat.base c.args.self.now.batch a.feed a.pass a.job.value b.pass b.job.value b.answer) c.loop-work.yielded c.loop-work.done.items c.push.new.self.items w c.worked.result c.in_ok-push.ensures.items inv.many inv.each (c.worked.ensures.feed, c.worked.ensures.worked);
    }

pub returns-clause-len : goal.returns-clause-len
returns-clause-len g c =
    let all = all_yielded c.loop-work.yielded c.loop-work.work-iterator.rest.items c.args.works.items (sym c.loop-work.work-iterator.rest.ok.0 ∙ c.in-None.ensures.steps.0) c.loop-work.invariant.whole in
    omega (arith, ap length all, c.loop-work.invariant.many, c.args.works.ok.0, c.loop-work.done.ok.0)

pub returns-clause-each : goal.returns-clause-each
returns-clause-each g c =
    let all = all_yielded c.loop-work.yielded c.loop-work.work-iterator.rest.items c.args.works.items (sym c.loop-work.work-iterator.rest.ok.0 ∙ c.in-None.ensures.steps.0) c.loop-work.invariant.whole in
    subst (λ (l : List (Work _)). AreWorkedEach g.S.Source.left g.S.Source.is_sound c.args.self.now.plans g.P.Seat.base c.args.self.now.batch l c.loop-work.done.items) all c.loop-work.invariant.each

use Rattle.std.proofs.Common.{◌≡◌, false, List, [], ◌∷◌, map, sym, subst, ◌∙◌, arith, All}
use Rattle.std.specs.Prelude.{OnOk, IsOk}
use Rattle.std.proofs.lemmas.List.{map-append}
use Rattle.std.proofs.lemmas.List.Elements.{All-push}
use Rattle.dm_rows.specs.History.{IsLegal}
use Rattle.dm_server.specs.declared.kept.Base.{Base}
use Rattle.dm_turn.specs.Passes.{PassValue}
use Rattle.dm_crew.specs.declared.work.Work.{Work}
use Rattle.dm_crew.specs.Inside.Works.{IsGathered}
use Rattle.dm_crew.proofs.Gathering.{none_gathered, one_gathered}
use Rattle.dm_crew.proofs.Loops.{one_yielded, all_yielded, mapped_push, all_here, is_ok_of, both_mapped}
use Rattle.dm_crew.proofs.Sharing.{ok_holds}
use Rattle.dm_crew.proofs.rounds.gather.Goals as goal

pub loop-work-init : goal.loop-work-init
loop-work-init g c = record {
  whole = c.into_iter-work-iterator.ensures.into_iter_gives.0;
  jobs = c.in_ok-jobs.ensures.items;
  all_ok = λ k d low. absurd (omega arith);
  gathered = none_gathered g.P.Seat.base c.args.main.now c.requires.legal;
}

pub loop-work-preserved : goal.loop-work-preserved
loop-work-preserved g c =
    let w = c.in-Some.work in
    let inv = c.loop-work.invariant in
    let ok : IsOk w.answer = is_ok_of w.answer c.in_ok-answer.field-0 c.in_ok-answer.was in
    let idle = all_here (λ (v : Work _). (v.pass.turn ≡ c.args.server.now.id) × (v.pass.holds ≡ false) × (v.pass.room ≡ 1)) c.loop-work.yielded _ _ c.args.works.items w c.in-Some.ensures.steps.0 inv.whole c.requires.passes in
    let legal = all_here (λ (v : Work _). OnOk v.answer (IsLegal g.P.Seat.base.network g.P.Seat.base.start v.pass.seen)) c.loop-work.yielded _ _ c.args.works.items w c.in-Some.ensures.steps.0 inv.whole c.requires.legal_all in
    record {
      whole = one_yielded c.loop-work.yielded _ _ c.args.works.items w c.in-Some.ensures.steps.0 inv.whole;
      jobs = mapped_push (λ (v : Work _). v.job) c.loop-work.yielded w c.loop-work.jobs.items c.push.new.self.items c.in_ok-push.ensures.items inv.jobs;
      all_ok = All-push (λ (v : Work _). IsOk v.answer) c.loop-work.yielded w inv.all_ok ok;
      gathered =
          subst (λ (l : List (PassValue Base)). IsGathered g.P.Seat.base c.args.main.now c.join.new.pass l) (sym (map-append (λ (v : Work _). v.pass) c.loop-work.yielded (w ∷ [])))
          (one_gathered g.P.Seat.base c.args.main.now c.loop-work.main c.join.new.pass (map (λ (v : Work _). v.pass) c.loop-work.yielded) w.pass inv.gathered idle.2
          (ok_holds (IsLegal g.P.Seat.base.network g.P.Seat.base.start w.pass.seen) w.answer legal ok) c.join.ensures.joined c.join.ensures.prefixes);
    }

pub returns-clause-jobs : goal.returns-clause-jobs
returns-clause-jobs g c =
    let all = all_yielded c.loop-work.yielded c.loop-work.work-iterator.rest.items c.args.works.items (sym c.loop-work.work-iterator.rest.ok.0 ∙ c.in-None.ensures.steps.0) c.loop-work.invariant.whole in
    sym (both_mapped (λ (w : Work _). w.job) (λ b. b.value) c.args.works.items c.loop-work.jobs.items (sym (subst (λ (l : List (Work _)). c.loop-work.jobs.items ≡ map (λ w. w.job) l) all c.loop-work.invariant.jobs)))

pub returns-clause-all_ok : goal.returns-clause-all_ok
returns-clause-all_ok g c =
    let all = all_yielded c.loop-work.yielded c.loop-work.work-iterator.rest.items c.args.works.items (sym c.loop-work.work-iterator.rest.ok.0 ∙ c.in-None.ensures.steps.0) c.loop-work.invariant.whole in
    subst (λ (l : List (Work _)). All (λ w. IsOk w.answer) l) all c.loop-work.invariant.all_ok

pub returns-clause-gathered : goal.returns-clause-gathered
returns-clause-gathered g c =
    let all = all_yielded c.loop-work.yielded c.loop-work.work-iterator.rest.items c.args.works.items (sym c.loop-work.work-iterator.rest.ok.0 ∙ c.in-None.ensures.steps.0) c.loop-work.invariant.whole in
    subst (λ (l : List (Work _)). IsGathered g.P.Seat.base c.args.main.now c.loop-work.main (map (λ w. w.pass) l)) all c.loop-work.invariant.gathered

use Rattle.std.proofs.Common.{◌≡◌, ℕ, ◌-◌, ◌<◌, List, length, map, sym, subst, ◌∙◌, arith}
use Rattle.std.proofs.lemmas.List.{length-map}
use Rattle.dm_crew.specs.declared.work.Work.{Work}
use Rattle.dm_crew.proofs.Sharing.{IsShared, AreWorked, all_ready, all_idle, all_legal, told_same, told_round}
use Rattle.dm_crew.proofs.Displays.{gathered_later}
use Rattle.dm_crew.proofs.rounds.Crew.answer_round.Given as given
use Rattle.dm_crew.proofs.rounds.Crew.answer_round.Goals as goal
use Rattle.dm_crew.proofs.rounds.Crew.answer_round.Goals.{In_ok-works, In_ok-works-2}

-- the parts of the round before they are worked, whatever comes of them
shared : (g : given.Over) (c : goal.In_ok-works g) (after : List (Work _)) → IsShared g.S.Source.left g.S.Source.is_sound c.args.self.now.plans g.P.Seat.base c.args.self.now.batch c.requires.some c.args.server.now.id c.in_ok-works.works.items after (map (λ b. b.value) c.args.jobs.items) c.args.main.now (λ (w : Work _). w.job.value) (λ (w : Work _). w.pass) (λ (w : Work _). w.feed) (λ (w : Work _). w.answer)
shared g c after = record {
  here = c.requires.here;
  idle = c.requires.idle;
  based = c.requires.base;
  legal = c.requires.legal;
  can_read = c.requires.can_read;
  are_true = c.requires.are_true;
  of_jobs = c.in_ok-works.ensures.jobs;
  split = c.in_ok-works.ensures.passes;
  numbered = c.in_ok-works.ensures.feeds;
}

-- and what comes of them
worked : (g : given.Over) (c : goal.In_ok-works-2 g) → AreWorked g.S.Source.left g.S.Source.is_sound c.args.self.now.plans g.P.Seat.base c.args.self.now.batch c.requires.some c.args.server.now.id c.in_ok-works.works.items c.in_ok-works-2.works.items (map (λ b. b.value) c.args.jobs.items) c.args.main.now (λ (w : Work _). w.job.value) (λ (w : Work _). w.pass) (λ (w : Work _). w.feed) (λ (w : Work _). w.answer)
worked g c = record {
  as_many = sym c.in_ok-works-2.works.ok.0 ∙ (c.in_ok-works-2.ensures.len ∙ c.in_ok-works.works.ok.0);
  each = c.in_ok-works-2.ensures.each;
}

-- the main pass has given a room to each
apart : (g : given.Over) (c : goal.In_ok-works g) → c.share_out.new.main ≡ record c.args.main.now { room = c.args.main.now.room - length (map (λ b. b.value) c.args.jobs.items) }
apart g c =
    subst (λ (n : ℕ). c.share_out.new.main ≡ record c.args.main.now { room = c.args.main.now.room - n }) (c.args.jobs.ok.0 ∙ sym (length-map c.args.jobs.items (λ b. b.value))) c.in_ok-works.ensures.main

enough : (g : given.Over) (c : goal.In_ok-works g) → length (map (λ b. b.value) c.args.jobs.items) < c.args.main.now.room
enough g c = omega (arith, length-map c.args.jobs.items (λ b. b.value), c.args.jobs.ok.0, c.requires.rooms)

pub work_all-requires-clause-ready : goal.work_all-requires-clause-ready
work_all-requires-clause-ready g c = λ lifetimes bounds.
    all_ready g.S.Source.left g.S.Source.is_sound c.args.self.now.plans g.P.Seat.base c.args.self.now.batch c.requires.some c.args.server.now.id c.in_ok-works.works.items c.in_ok-works.works.items (map (λ b. b.value) c.args.jobs.items) c.args.main.now (λ (w : Work _). w.job.value) (λ (w : Work _). w.pass) (λ (w : Work _). w.feed) (λ (w : Work _). w.answer) (shared g (goal.at.work_all-requires-clause-ready g c).In_ok-works c.in_ok-works.works.items)

pub gather-requires-clause-passes : goal.gather-requires-clause-passes
gather-requires-clause-passes g c =
    let parts = shared g (goal.at.gather-requires-clause-passes g c).In_ok-works c.in_ok-works-2.works.items in
    all_idle g.S.Source.left g.S.Source.is_sound c.args.self.now.plans g.P.Seat.base c.args.self.now.batch c.requires.some c.args.server.now.id c.in_ok-works.works.items c.in_ok-works-2.works.items (map (λ b. b.value) c.args.jobs.items) c.args.main.now (λ (w : Work _). w.job.value) (λ (w : Work _). w.pass) (λ (w : Work _). w.feed) (λ (w : Work _). w.answer) parts (worked g (goal.at.gather-requires-clause-passes g c).In_ok-works-2)

pub gather-requires-clause-legal_all : goal.gather-requires-clause-legal_all
gather-requires-clause-legal_all g c =
    let parts = shared g (goal.at.gather-requires-clause-legal_all g c).In_ok-works c.in_ok-works-2.works.items in
    all_legal g.S.Source.left g.S.Source.is_sound c.args.self.now.plans g.P.Seat.base c.args.self.now.batch c.requires.some c.args.server.now.id c.in_ok-works.works.items c.in_ok-works-2.works.items (map (λ b. b.value) c.args.jobs.items) c.args.main.now (λ (w : Work _). w.job.value) (λ (w : Work _). w.pass) (λ (w : Work _). w.feed) (λ (w : Work _). w.answer) parts (worked g (goal.at.gather-requires-clause-legal_all g c).In_ok-works-2)

pub returns-clause-same : goal.returns-clause-same
returns-clause-same g c =
    let ready = (goal.at.returns-clause-same g c).In_ok-works in
    told_same g.S.Source.left g.S.Source.is_sound c.args.self.now.plans g.P.Seat.base c.args.self.now.batch c.requires.some c.args.server.now.id c.in_ok-works.works.items c.in_ok-works-2.works.items (map (λ b. b.value) c.args.jobs.items) c.args.main.now (λ (w : Work _). w.job.value) (λ (w : Work _). w.pass) (λ (w : Work _). w.feed) (λ (w : Work _). w.answer) c.share_out.new.main c.gather.new.main (shared g ready c.in_ok-works-2.works.items) (worked g (goal.at.returns-clause-same g c).In_ok-works-2) (apart g ready) (enough g ready) c.gather.result c.gather.ensures.gathered

pub returns-clause-round : goal.returns-clause-round
returns-clause-round g c =
    let ready = (goal.at.returns-clause-round g c).In_ok-works in
    told_round g.S.Source.left g.S.Source.is_sound c.args.self.now.plans g.P.Seat.base c.args.self.now.batch c.requires.some c.args.server.now.id c.in_ok-works.works.items c.in_ok-works-2.works.items (map (λ b. b.value) c.args.jobs.items) c.args.main.now (λ (w : Work _). w.job.value) (λ (w : Work _). w.pass) (λ (w : Work _). w.feed) (λ (w : Work _). w.answer) c.share_out.new.main c.gather.new.main (shared g ready c.in_ok-works-2.works.items) (worked g (goal.at.returns-clause-round g c).In_ok-works-2) (apart g ready) (enough g ready) (λ after. map (λ b. b.value) after.items) c.gather.result c.gather.ensures.jobs c.gather.ensures.all_ok c.gather.ensures.gathered

pub returns-clause-later : goal.returns-clause-later
returns-clause-later g c =
    gathered_later g.P.Seat.base c.args.main.now c.share_out.new.main c.gather.new.main _ _ c.in_ok-works.ensures.main c.gather.result c.gather.ensures.gathered

use Rattle.std.proofs.Common.{◌≡◌, ℕ, ◌-◌, [], ◌∷◌, length, sym, ap, subst, ◌∙◌, arith, length-append}
use Rattle.std.proofs.lemmas.List.{length-map}
use Rattle.dm_server.specs.declared.kept.Base.{Base}
use Rattle.dm_turn.specs.Passes.{PassValue}
use Rattle.dm_crew.specs.declared.work.Work.{Work}
use Rattle.dm_crew.specs.Inside.Works.{split_of}
use Rattle.dm_crew.proofs.Loops.{one_yielded, all_yielded, some_left, mapped_more, all_more, numbered_more, one_split, both_mapped}
use Rattle.dm_crew.proofs.rounds.share_out.Goals as goal

pub split-pass-requires-clause-turn : goal.split-pass-requires-clause-turn
split-pass-requires-clause-turn g c = ap (λ (p : PassValue Base). p.turn) c.loop-job.invariant.main ∙ c.requires.here

pub split-pass-requires-clause-room : goal.split-pass-requires-clause-room
split-pass-requires-clause-room g c =
    let room = ap (λ (p : PassValue Base). p.room) c.loop-job.invariant.main in
    let left = some_left c.loop-job.yielded c.loop-job.job-iterator.rest.items c.next.new.self.rest.items c.args.jobs.items c.in-Some.job c.in-Some.ensures.steps.0 c.loop-job.invariant.whole in
    omega (arith, room, left, c.args.jobs.ok.0, c.requires.rooms)

pub overflow_cast-feed : goal.overflow_cast-feed
overflow_cast-feed g c =
    let left = some_left c.loop-job.yielded c.loop-job.job-iterator.rest.items c.next.new.self.rest.items c.args.jobs.items c.in-Some.job c.in-Some.ensures.steps.0 c.loop-job.invariant.whole in
    let many = ap length c.loop-job.invariant.jobs in
    let made = length-map c.loop-job.works.items (λ w. w.job) in
    omega (arith, left, many, made, c.args.jobs.ok.0, c.loop-job.works.ok.0, c.len-in-loop-job.ensures, c.requires.few)

pub loop-job-preserved : goal.loop-job-preserved
loop-job-preserved g c =
    let is = c.in_ok-push.ensures.items in
    let many = ap length c.loop-job.invariant.jobs in
    let made = length-map c.loop-job.works.items (λ w. w.job) in
    record {
      whole = one_yielded c.loop-job.yielded c.loop-job.job-iterator.rest.items c.next.new.self.rest.items c.args.jobs.items c.in-Some.job c.in-Some.ensures.steps.0 c.loop-job.invariant.whole;
      main = one_split c.args.main.now c.loop-job.main c.split-pass.new.pass (length c.loop-job.yielded) _ c.loop-job.invariant.main c.split-pass.ensures.left (length-append c.loop-job.yielded (c.in-Some.job ∷ []));
      jobs = mapped_more (λ w. w.job) c.loop-job.works.items c.push.new.self.items _ c.loop-job.yielded is c.loop-job.invariant.jobs;
      passes = all_more (λ w. w.pass ≡ split_of c.args.main.now) c.loop-job.works.items c.push.new.self.items _ is c.loop-job.invariant.passes (c.split-pass.ensures.new ∙ ap split_of c.loop-job.invariant.main);
      feeds = numbered_more (λ w. w.feed) c.loop-job.works.items c.push.new.self.items _ is (omega (arith, c.len-in-loop-job.ensures, c.loop-job.works.ok.0)) c.loop-job.invariant.feeds;
    }

pub returns-clause-main : goal.returns-clause-main
returns-clause-main g c =
    let all = all_yielded c.loop-job.yielded c.loop-job.job-iterator.rest.items c.args.jobs.items (sym c.loop-job.job-iterator.rest.ok.0 ∙ c.in-None.ensures.steps.0) c.loop-job.invariant.whole in
    let many : length c.loop-job.yielded ≡ c.args.jobs.len = ap length all ∙ sym c.args.jobs.ok.0 in
    subst (λ (n : ℕ). c.loop-job.main ≡ record c.args.main.now { room = c.args.main.now.room - n }) many c.loop-job.invariant.main

pub returns-clause-jobs : goal.returns-clause-jobs
returns-clause-jobs g c =
    both_mapped (λ (w : Work _). w.job) (λ b. b.value) c.loop-job.works.items c.args.jobs.items
    (c.loop-job.invariant.jobs
    ∙ all_yielded c.loop-job.yielded c.loop-job.job-iterator.rest.items c.args.jobs.items (sym c.loop-job.job-iterator.rest.ok.0 ∙ c.in-None.ensures.steps.0) c.loop-job.invariant.whole)

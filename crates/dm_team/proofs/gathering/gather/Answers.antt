use Rattle.std.proofs.Common.{◌≡◌, arith, Result, sym, subst, ◌∙◌}
use Rattle.std.specs.Prelude.{IfOk, IfSome}
use Rattle.std.proofs.lemmas.List.{nil_from_length}
use Rattle.dm_traverse.specs.Moving.{IsOver}
use Rattle.dm_team.specs.declared.working.Worker.{Worker}
use Rattle.dm_team.proofs.Enlisted.{first_of_all, others_of_all}
use Rattle.dm_team.proofs.Joined.{goes_on, all_gathered}
use Rattle.dm_team.proofs.gathering.gather.Goals as goal

pub loop-worker-preserved : goal.loop-worker-preserved
loop-worker-preserved g c =
    let is = c.in-Some.ensures.steps.0 in
    let inv = c.loop-worker.invariant in
    record {
      words = others_of_all (λ (r : Result (Worker _) _). IfOk r (λ w. w.hand.word ≡ c.args.word.now.id)) c.in-Some.worker _ _ is inv.words;
      no_dearer = omega (arith, c.in_ok-gathered.ensures.no_dearer, inv.no_dearer);
      word = c.in_ok-gathered.ensures.word;
      evaluator = λ task first all.
          let had = inv.evaluator task first all in (
            c.in_ok-gathered.ensures.evaluator task had.0
                (subst (λ (r : Result (Worker _) _). IfOk r (λ w. IfSome w.evaluator (IsOver task))) c.in_ok-done.was
                (first_of_all (λ (r : Result (Worker _) _). IfOk r (λ w. IfSome w.evaluator (IsOver task))) c.in-Some.worker _ _ is had.1)),
            others_of_all (λ (r : Result (Worker _) _). IfOk r (λ w. IfSome w.evaluator (IsOver task))) c.in-Some.worker _ _ is had.1,
          );
      going = λ task own start rooms theirs jobs handed first.
          goes_on task own _ start rooms theirs jobs _ _ _ _ _ _ (inv.going task own start rooms theirs jobs handed first) is c.in_ok-done.was
          (λ given more n gathered works. c.in_ok-gathered.ensures.gathered task own start n given more gathered works) c.in_ok-gathered.ensures.owners c.in_ok-gathered.ensures.tallies;
    }

pub returns-clause-evaluator : goal.returns-clause-evaluator
returns-clause-evaluator g c = λ task first all. (c.loop-worker.invariant.evaluator task first all).0

pub returns-clause-gathered : goal.returns-clause-gathered
returns-clause-gathered g c = λ task own start rooms theirs jobs handed first.
    all_gathered task own _ start rooms theirs jobs _ _ (c.loop-worker.invariant.going task own start rooms theirs jobs handed first)
    (nil_from_length _ (sym c.loop-worker.worker-iterator.rest.ok.0 ∙ c.in-None.ensures.steps.0))

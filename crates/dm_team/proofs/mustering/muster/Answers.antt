use Rattle.std.proofs.Common.{length, map, rules, refl, ap, ◌∙◌, length-append}
use Rattle.dm_bound.specs.Words.{HandValue}
use Rattle.dm_deques.specs.Sharing.{deque_of}
use Rattle.dm_team.specs.Inside.Gathering.{HasTakenNothing}
use Rattle.dm_team.specs.Inside.Workers.{IsNewWorker, owner_of}
use Rattle.dm_team.proofs.Enlisted.{IsPurse, one_more_of, one_split, all_more, first_of_all, others_of_all, last_of_all, front_of_all, one_fewer}
use Rattle.dm_team.proofs.mustering.muster.Goals as goal

pub loop-owner-preserved : goal.loop-owner-preserved
loop-owner-preserved g c =
    let is = c.in_ok-push.ensures.items in
    let inv = c.loop-owner.invariant in
    let rest = c.in-Some.ensures.steps.0 in
    let part = c.split-part.ensures.new in
    record {
      owners = one_more_of owner_of c.loop-owner.workers.items _ _ c.in-Some.owner _ _ _ inv.owners rest is refl;
      left = others_of_all HasTakenNothing c.in-Some.owner _ _ rest inv.left;
      purses = front_of_all (IsPurse c.args.equipped.owners.items) c.loop-owner.purses.items _ c.in-Some-pop.tallies c.in-Some-pop.ensures.items inv.purses;
      many = one_fewer c.loop-owner.purses.items _ c.in-Some-pop.tallies c.loop-owner.owner-iterator.rest.items _ c.in-Some.owner c.in-Some-pop.ensures.items rest inv.many;
      hand = one_split c.args.hand.now c.loop-owner.hand _ (length c.loop-owner.workers.items) _ inv.hand c.split-part.ensures.left (ap length is ∙ length-append _ _);
      new = λ task all.
          let had = inv.new task all in
          let lent = c.lend.ensures task had.1 in (
            all_more (IsNewWorker task c.args.own c.args.word.now.id c.args.hand.now.start (map deque_of c.args.equipped.owners.items)) _ _ _ is had.0
                (record {
                  taken = first_of_all HasTakenNothing c.in-Some.owner _ _ rest inv.left;
                  tallies = c.into_vec.ensures ∙ last_of_all (IsPurse c.args.equipped.owners.items) c.loop-owner.purses.items _ c.in-Some-pop.tallies c.in-Some-pop.ensures.items inv.purses;
                  leaves = search rules;
                  given_up = search rules;
                  word_is = ap (λ (h : HandValue). h.word) part ∙ (ap (λ (h : HandValue). h.word) inv.hand ∙ c.requires.word);
                  start_is = ap (λ (h : HandValue). h.start) part ∙ ap (λ (h : HandValue). h.start) inv.hand;
                  room = ap (λ (h : HandValue). h.room) part;
                  lowered = ap (λ (h : HandValue). h.lowered) part;
                  choices = c.of_rows.ensures.0;
                  cost = c.of_rows.ensures.1;
                  evaluator = lent.0;
                }),
            lent.1,
          );
    }

pub returns-clause-new : goal.returns-clause-new
returns-clause-new g c = λ task all. (c.loop-owner.invariant.new task all).0

use Rattle.std.proofs.Common.{ℕ, ◌≡◌, ◌+◌, sym, arith, length, subst}
use Rattle.dm_network.proofs.EventRows.{leads_into}
use Rattle.dm_journey.proofs.Reached.{HasStepped, stepped_by, stepped_over}
use Rattle.dm_journey.specs.Inside.Reaching.{IsFromRow, IsReachedAlong}
use Rattle.dm_journey.proofs.reaching.reach_along.Goals as goal
use Rattle.dm_journey.proofs.reaching.reach_along.Goals.{then-usable-a, else-usable-a}

pub bounds-usable-a : goal.bounds-usable-a
bounds-usable-a c =
    let leads = leads_into c.args.net.now c.args.event c.loop-a.a-index c.args.into.now c.requires.row (omega arith) in
    let is_activity = leads.is_activity in
    let sized = c.requires.flags in
    omega arith

pub reach_by-requires-clause-is_activity : goal.reach_by-requires-clause-is_activity
reach_by-requires-clause-is_activity c =
    (leads_into c.args.net.now c.args.event c.loop-a.a-index c.args.into.now c.requires.row (omega arith)).is_activity

pub loop-a-preserved : goal.loop-a-preserved
loop-a-preserved c =
    let stepped : HasStepped c.args.net.now c.args.usable.now c.args.most c.args.at_first c.args.reached.now c.args.into.now (c.loop-a.a-index + 1) c.if-usable-a.best =
    elim c.if-usable-a.branch [
      | then-usable-a w ↦
          subst (HasStepped c.args.net.now c.args.usable.now c.args.most c.args.at_first c.args.reached.now c.args.into.now (c.loop-a.a-index + 1)) (sym w.best-is)
          (stepped_by c.args.net.now c.args.usable.now c.args.most c.args.at_first c.args.reached.now c.args.into.now c.loop-a.a-index c.loop-a.best
          c.loop-a.invariant.comes c.loop-a.invariant.along w.reach_by.result w.fewer-best.result w.if-usable-a.true
          w.reach_by.ensures.by w.reach_by.ensures.counted w.reach_by.ensures.reaches
          w.fewer-best.ensures.either w.fewer-best.ensures.first w.fewer-best.ensures.second)
      | else-usable-a w ↦
          stepped_over c.args.net.now c.args.usable.now c.args.most c.args.at_first c.args.reached.now c.args.into.now c.loop-a.a-index c.loop-a.best
          c.loop-a.invariant.comes c.loop-a.invariant.along c.if-usable-a.best w.if-usable-a.false w.best-is
    ] in
    record { comes = stepped.comes; along = stepped.along }

pub returns-clause-comes : goal.returns-clause-comes
returns-clause-comes c =
    let all : c.loop-a.a-index ≡ length c.args.into.now = omega arith in
    subst (λ (n : ℕ). IsFromRow c.args.net.now c.args.usable.now c.args.at_first c.args.reached.now c.args.into.now n c.loop-a.best) all c.loop-a.invariant.comes

pub returns-clause-along : goal.returns-clause-along
returns-clause-along c =
    let all : c.loop-a.a-index ≡ length c.args.into.now = omega arith in
    subst (λ (n : ℕ). IsReachedAlong c.args.net.now c.args.usable.now c.args.most c.args.at_first c.args.reached.now c.args.into.now n c.loop-a.best) all c.loop-a.invariant.along

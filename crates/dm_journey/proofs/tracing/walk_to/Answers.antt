use Rattle.std.proofs.Common.{ℕ, true, sym, List, subst, reverse}
use Rattle.dm_journey.specs.Inside.Reaching.{IsTraced, IsTracedFrom}
use Rattle.dm_network.specs.declared.parts.Activity.{Activity}
use Rattle.dm_journey.proofs.Traced.{reached_by, traced_pushed, traced_whole, traced_none}
use Rattle.dm_journey.proofs.tracing.walk_to.Goals as goal

pub loop-a-init : goal.loop-a-init
loop-a-init c = record {
  is_event = c.requires.is_event;
  traced = λ n begins usable exactly are.
      traced_none c.args.net.now usable c.args.reached.now c.args.last n _ (c.new-walk.ensures.items) c.requires.is_event exactly;
}

pub loop-a-preserved : goal.loop-a-preserved
loop-a-preserved c =
    let along = reached_by c.args.net.now (λ e. true) (λ a. true) c.args.search.now.ranks c.args.reached.now c.requires.reached
    c.loop-a.event c.in-Some.a c.loop-a.invariant.is_event (sym c.in-Some.ensures) in
    record {
      is_event = rw c.activity.ensures along.along.binds.from_event;
      traced = λ n begins usable exactly are.
          subst (λ (a : Activity). IsTracedFrom c.args.net.now usable c.args.reached.now a.tail c.args.last (reverse c.push.new.self.items) n) (sym c.activity.ensures)
          (traced_pushed c.args.net.now begins usable c.args.search.now.ranks c.args.reached.now are c.loop-a.event c.args.last c.in-Some.a n
          c.loop-a.walk.items c.push.new.self.items c.in_ok-push.ensures.items (sym c.in-Some.ensures) (c.loop-a.invariant.traced n begins usable exactly are));
    }

pub returns : goal.returns
returns c = λ n begins usable exactly are.
    subst (λ (w : List ℕ). IsTraced c.args.net.now begins usable c.args.last w n) (sym c.reverse.ensures.items)
    (traced_whole c.args.net.now begins usable c.args.search.now.ranks c.args.reached.now are c.loop-a.event c.args.last n (reverse c.loop-a.walk.items)
    (sym c.in_default.ensures) (c.loop-a.invariant.traced n begins usable exactly are))

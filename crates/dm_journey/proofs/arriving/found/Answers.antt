use Rattle.std.proofs.Common.{sym, subst, List, ℕ, refl}
use Rattle.dm_journey.specs.Inside.Reaching.{IsTraced}
use Rattle.dm_journey.proofs.Chosen.{found_none, found_late, found_more}
use Rattle.dm_journey.proofs.arriving.found.Goals as goal

pub loop-changes-preserved-in_default : goal.loop-changes-preserved-in_default
loop-changes-preserved-in_default c =
    found_none c.args.net.now c.args.times.now c.args.to c.args.search.now.ranks c.args.reached.now c.loop-changes.changes c.loop-changes.journeys.items
    c.loop-changes.invariant c.in_default.ensures

pub loop-changes-preserved-then-not-are_later : goal.loop-changes-preserved-then-not-are_later
loop-changes-preserved-then-not-are_later c =
    found_late c.args.net.now c.args.times.now c.args.to c.args.search.now.ranks c.args.reached.now c.loop-changes.changes c.loop-changes.journeys.items
    c.loop-changes.invariant c.in-Some.last c.time-arrival.result c.deref.result.now c.in-Some.ensures c.time-arrival.ensures.value c.deref.ensures.value
    c.if-not-are_later.ensures

pub loop-changes-preserved : goal.loop-changes-preserved
loop-changes-preserved c =
    found_more c.args.net.now c.args.times.now c.args.to c.args.search.now.ranks c.args.reached.now c.loop-changes.changes c.loop-changes.journeys.items
    c.loop-changes.invariant c.in-Some.last (record { walk = c.from_vec.result; arrival = c.time-arrival.result; changes = c.loop-changes.changes })
    c.deref.result.now c.push.new.self.items c.in-Some.ensures c.deref.ensures.value c.if-not-are_later.ensures c.time-arrival.ensures.value refl
    (λ begins usable are.
    subst (λ (w : List ℕ). IsTraced c.args.net.now begins usable c.in-Some.last w c.loop-changes.changes) (sym c.from_vec.ensures)
    (c.in_ok-walk.ensures c.loop-changes.changes begins usable c.in-Some.ensures.0.exactly are))
    c.in_ok-push.ensures.items

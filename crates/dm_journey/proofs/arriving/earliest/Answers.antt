use Rattle.std.proofs.Common.{ℕ, ◌≡◌, arith, length, subst}
use Rattle.dm_journey.specs.Inside.Arriving.{IsEarliestOf}
use Rattle.dm_journey.proofs.StopRows.{at_stop_in_row}
use Rattle.dm_journey.proofs.Chosen.{earliest_whole}
use Rattle.dm_journey.proofs.arriving.earliest.Goals as goal

pub arrives_with-requires-clause-is_event : goal.arrives_with-requires-clause-is_event
arrives_with-requires-clause-is_event c =
    (at_stop_in_row c.args.net.now c.args.to c.loop-e.e-index c.at_stop-e-items.result.now c.at_stop-e-items.ensures (omega arith)).is_event

pub returns : goal.returns
returns c =
    let all : c.loop-e.e-index ≡ length c.at_stop-e-items.result.now = omega arith in
    earliest_whole c.args.net.now c.args.reached.now c.args.times.now c.args.to c.args.changes c.at_stop-e-items.result.now c.at_stop-e-items.ensures c.loop-e.best
    (subst (λ (k : ℕ). IsEarliestOf c.args.net.now c.args.reached.now c.args.times.now c.args.changes c.at_stop-e-items.result.now k c.loop-e.best) all c.loop-e.invariant)

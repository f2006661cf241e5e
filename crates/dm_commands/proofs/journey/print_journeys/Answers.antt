use Rattle.std.proofs.Common.{sym, subst}
use Rattle.std.proofs.lemmas.List.{take_all}
use Rattle.std.specs.List.{flat_map}
use Rattle.dm_journey.specs.declared.arriving.Journey.{Journey}
use Rattle.dm_outside.proofs.Printing.{prints_next, prints_fault_next, prints_fault, prints_then, prints_then_fault}
use Rattle.dm_commands.specs.Inside.Asking.{IsWalkIn}
use Rattle.dm_commands.specs.Travelled.{journey_text, journeys_text}
use Rattle.dm_commands.proofs.journey.print_journeys.Goals as goal

pub print_journey-requires : goal.print_journey-requires
print_journey-requires g c =
    subst (λ (j : Journey). IsWalkIn c.args.net.now j.walk) (sym c.journey-item.is) (c.requires c.loop-journey.journey-index _ c.loop-journey-test.true)

pub loop-journey-preserved : goal.loop-journey-preserved
loop-journey-preserved g c = prints_next _ _ _ c.loop-journey-test.true c.journey-item.is c.loop-journey.invariant c.in-Ok-print_journey.ensures

pub returns-in_default : goal.returns-in_default
unfolding journeys_text
returns-in_default g c = prints_fault (flat_map (journey_text c.args.net.now) c.args.journeys.now) c.in_default.ensures

pub returns-in_default-print_journey : goal.returns-in_default-print_journey
unfolding journeys_text
returns-in_default-print_journey g c =
    prints_then_fault c.in-Ok.ensures
    (prints_fault_next _ _ _ c.loop-journey-test.true c.journey-item.is c.loop-journey.invariant c.in_default-print_journey.ensures)

pub returns : goal.returns
unfolding journeys_text
returns g c =
    let all = rw (take_all c.loop-journey.journey-index c.args.journeys.now c.loop-journey-test.false) at c.loop-journey.invariant in
    prints_then c.in-Ok.ensures all

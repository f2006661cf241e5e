use Rattle.std.proofs.Common.{take}
use Rattle.std.specs.List.{flat_map}
use Rattle.dm_outside.specs.Printing.{Gathers}
use Rattle.dm_commands.specs.Travelled.{journey_text}
use Rattle.dm_commands.proofs.journey.print_journeys.Given as goal

abbrev pub invariant-loop-journey : goal.invariant-loop-journey
invariant-loop-journey g l =
    Gathers g.K.Sink.taken g.K.Sink.faults l.initial.sink l.sink l.initial.page l.page (flat_map (journey_text l.net) (take l.journey-index l.journeys))

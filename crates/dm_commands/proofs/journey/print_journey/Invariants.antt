use Rattle.std.proofs.Common.{take}
use Rattle.std.specs.List.{flat_map}
use Rattle.dm_outside.specs.Printing.{Gathers}
use Rattle.dm_commands.specs.Travelled.{step_text}
use Rattle.dm_commands.proofs.journey.print_journey.Given as goal

abbrev pub invariant-loop-a : goal.invariant-loop-a
invariant-loop-a g l =
    Gathers g.K.Sink.taken g.K.Sink.faults l.initial.sink l.sink l.initial.page l.page (flat_map (step_text l.net) (take l.a-index l.walk))

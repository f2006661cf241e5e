use Rattle.std.specs.Prelude.{◌≡◌}
use Rattle.dm_priced.specs.Priced.{IsPriced}
use Rattle.dm_propagate.specs.Inside.Flags.{flags_of}
use Rattle.dm_propagate.specs.Inside.Raising.{RaisesFloors}
use Rattle.dm_propagate.proofs.clock.raise_floors.Given as goal

abbrev pub invariant-loop-scheduled : goal.invariant-loop-scheduled
invariant-loop-scheduled l = IsPriced l.day.net.now l.priced × (flags_of l.priced ≡ flags_of l.initial.priced) × RaisesFloors l.day.net.now l.day.rows.now l.due l.scheduled-index l.initial.priced.live l.priced.live

use Rattle.std.specs.Prelude.{◌≡◌}
use Rattle.dm_priced.specs.Priced.{IsPriced}
use Rattle.dm_propagate.specs.Inside.Flags.{flags_of}
use Rattle.dm_propagate.specs.Inside.Changing.{HasFloors}
use Rattle.dm_propagate.proofs.clock.set_floors.Given as goal

abbrev pub invariant-loop-i : goal.invariant-loop-i
invariant-loop-i l = IsPriced l.day.net.now l.priced × (flags_of l.priced ≡ flags_of l.initial.priced) × HasFloors l.day.net.now l.day.rows.now l.i l.initial.priced.live l.priced.live

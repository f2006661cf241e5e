use Rattle.std.specs.Prelude.{◌≡◌}
use Rattle.dm_priced.specs.Priced.{IsPriced}
use Rattle.dm_propagate.specs.Inside.Flags.{flags_of}
use Rattle.dm_propagate.specs.Inside.Turning.{IsAmong, TakesUp}
use Rattle.dm_propagate.proofs.held.take_up.Given as goal

abbrev pub invariant-loop-a : goal.invariant-loop-a
invariant-loop-a l = IsPriced l.day.net.now l.priced × (flags_of l.priced ≡ flags_of l.initial.priced) × TakesUp l.day.net.now l.day.rows.now (IsAmong l.acts l.a-index) l.initial.priced.live l.priced.live

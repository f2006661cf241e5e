use Rattle.std.specs.Prelude.{◌≡◌}
use Rattle.dm_priced.specs.Priced.{IsPriced}
use Rattle.dm_propagate.specs.Inside.Flags.{flags_of}
use Rattle.dm_propagate.specs.Inside.Concern.{IsDecidedBefore}
use Rattle.dm_propagate.specs.Inside.Turning.{Within, TakesUp}
use Rattle.dm_propagate.proofs.turning.take_up_by_flips.Given as goal

abbrev pub invariant-loop-flip : goal.invariant-loop-flip
invariant-loop-flip g l =
    IsPriced l.day.net.now l.priced × (flags_of l.priced ≡ flags_of l.initial.priced) × TakesUp l.day.net.now l.day.rows.now (Within l.day.net.now (IsDecidedBefore l.day.net.now l.flips l.flip-index)) l.initial.priced.live l.priced.live

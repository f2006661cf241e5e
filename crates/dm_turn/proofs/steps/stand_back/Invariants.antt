use Rattle.std.proofs.Common.{◌≡◌}
use Rattle.dm_turn.specs.Inside.Steps.{IsSameSeat}
use Rattle.dm_turn.proofs.steps.stand_back.Given as goal

abbrev pub invariant-loop : goal.invariant-loop
invariant-loop g l = IsSameSeat l.initial.seat l.seat × (l.seat.me ≡ l.initial.seat.me)

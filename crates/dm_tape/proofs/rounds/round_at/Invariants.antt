use Rattle.dm_tape.proofs.Steps.{HasParts}
use Rattle.dm_tape.proofs.rounds.round_at.Given as goal

abbrev pub invariant-loop-place : goal.invariant-loop-place
invariant-loop-place l = HasParts l.feeds l.initial.lines l.lines l.round.items l.place

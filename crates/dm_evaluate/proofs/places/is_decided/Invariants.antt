use Rattle.dm_evaluate.specs.Inside.Places.{NoneFrom}
use Rattle.dm_evaluate.proofs.places.is_decided.Given as goal

abbrev pub invariant-loop-place : goal.invariant-loop-place
invariant-loop-place l = NoneFrom l.path l.choice l.place

use Rattle.dm_check_plans.specs.Inside.Paths.{IsLeftToChoose}
use Rattle.dm_check_plans.proofs.choices.are_some_of.Given as goal

abbrev pub invariant-loop-choice : goal.invariant-loop-choice
invariant-loop-choice l = IsLeftToChoose l.allowed l.decisions l.choice-index l.next

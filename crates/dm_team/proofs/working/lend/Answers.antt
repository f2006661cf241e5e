use Rattle.dm_traverse.specs.Moving.{IsOver}
use Rattle.dm_team.proofs.Enlisted.{last_of_all, front_of_all}
use Rattle.dm_team.proofs.working.lend.Goals as goal

pub returns-in-Some : goal.returns-in-Some
returns-in-Some c = λ task all. (
  last_of_all (IsOver task) _ _ c.in-Some.evaluator c.in-Some.ensures.items all,
  front_of_all (IsOver task) _ _ c.in-Some.evaluator c.in-Some.ensures.items all,
)

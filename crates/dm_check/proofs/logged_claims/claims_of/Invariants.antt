use Rattle.std.specs.Prelude.{All}
use Rattle.dm_check_answers.specs.Claims.{IsSpelledAnswer}
use Rattle.dm_check.proofs.logged_claims.claims_of.Given as goal

abbrev pub invariant-loop-log : goal.invariant-loop-log
invariant-loop-log l = All IsSpelledAnswer l.claims.items

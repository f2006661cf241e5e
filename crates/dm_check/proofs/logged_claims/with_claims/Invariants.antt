use Rattle.std.specs.Prelude.{All}
use Rattle.dm_check_answers.specs.Claims.{IsSpelledAnswer}
use Rattle.dm_check.proofs.logged_claims.with_claims.Given as goal

abbrev pub invariant-loop-item : goal.invariant-loop-item
invariant-loop-item l = All IsSpelledAnswer l.claims.items

use Rattle.std.specs.Prelude.{All}
use Rattle.dm_check_answers.specs.Claims.{IsSpelledAnswer}
use Rattle.dm_check.proofs.gathering.claims_in.Given as goal

abbrev pub invariant-loop-line : goal.invariant-loop-line
invariant-loop-line l = All IsSpelledAnswer l.claims.items

use Rattle.std.proofs.Common.{◌≡◌}
use Rattle.dm_check_answers.specs.Claims.{IsKnown}
use Rattle.dm_check_answers.proofs.learning.judge_all.Given as goal

abbrev pub invariant-loop-turn : goal.invariant-loop-turn
invariant-loop-turn l = record {
  knows : IsKnown l.initial.replay.journal.setting l.initial.replay.journal.history l.known;
  same : l.replay.journal ≡ l.initial.replay.journal;
}

use Rattle.std.proofs.Common.{arith}
use Rattle.dm_check_answers.specs.Judging.{setting_of, history_of}
use Rattle.dm_check_answers.proofs.replay.Replay.new.Goals as goal

pub invariant_of-result : goal.invariant_of-result
invariant_of-result c = record {
  setting = c.requires;
  rows_are = c.in-Ok.ensures.rows;
  within = omega arith;
  stands = c.in-Ok.ensures.stands;
  knows = c.none.ensures (setting_of c.args.journal.setting) (history_of c.args.journal);
}

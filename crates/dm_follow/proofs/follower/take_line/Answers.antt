use Rattle.std.proofs.Common.{[], ◌∷◌}
use Rattle.dm_follow.proofs.Taken.{taken_then}
use Rattle.dm_follow.proofs.follower.take_line.Goals as goal

pub returns-in-Ok : goal.returns-in-Ok
returns-in-Ok c = taken_then c.args.follower.now c.take_part.new.self c.end_line.new.self c.args.bytes.now (10 ∷ []) c.end_line.result c.in-Ok.ensures.goes c.end_line.ensures

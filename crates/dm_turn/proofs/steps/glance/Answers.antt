use Rattle.std.proofs.Common.{rules}
use Rattle.dm_turn.proofs.Keeps.{glances}
use Rattle.dm_turn.proofs.steps.glance.Goals as goal

pub load-requires : goal.load-requires
load-requires g c = (search rules, search rules, glances g.S.HasHistory.history g.S.HasHistory.base _ _ _ _ _ _ c.requires.word)

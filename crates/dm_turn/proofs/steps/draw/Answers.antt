use Rattle.std.proofs.Common.{rules}
use Rattle.dm_turn.proofs.Keeps.{draws}
use Rattle.dm_turn.proofs.steps.draw.Goals as goal

pub fetch_add-requires : goal.fetch_add-requires
fetch_add-requires g c = (search rules, search rules, draws g.S.HasHistory.history g.S.HasHistory.base _ _ _ _ _ c.requires.idle c.requires.seat.1)

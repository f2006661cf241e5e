use Rattle.std.proofs.Common.{rules}
use Rattle.dm_turn.proofs.Keeps.{serves_next}
use Rattle.dm_turn.proofs.steps.serve.Goals as goal

pub fetch_add-served-requires : goal.fetch_add-served-requires
fetch_add-served-requires g c = let home = c.requires.home in (
  search rules,
  search rules,
  serves_next g.S.HasHistory.history g.S.HasHistory.base _ _ _ _ _ c.requires.served.0 home.0 c.requires.served.1 c.requires.seat.1 home.1 home.2 home.3,
)

use Rattle.std.proofs.Common.{rules}
use Rattle.dm_turn.proofs.Keeps.{adds}
use Rattle.dm_turn.proofs.steps.count.Goals as goal

pub fetch_add-requires : goal.fetch_add-requires
fetch_add-requires g c = (
  search rules,
  search rules,
  rw c.requires.told (adds g.S.HasHistory.history g.S.HasHistory.base _ _ _ _ _ c.requires.served.0 c.requires.gained.0 (g.S.HasHistory.history c.args.state.now)
      c.requires.served.1 c.requires.seat.1 c.requires.gained.1 c.requires.short),
)

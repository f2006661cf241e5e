use Rattle.std.proofs.Common.{rules}
use Rattle.dm_bound.proofs.Keeps.{joins}
use Rattle.dm_bound.proofs.word.BoundWord.join.Goals as goal

pub join_seat-requires : goal.join_seat-requires
join_seat-requires c = (
  search rules,
  search rules,
  search rules,
  search rules,
  joins _ _ c.hand.inside.seat.id c.hand.inside.seat.me.0 c.other.inside.seat.id c.other.inside.seat.me.0 c.hand.invariant.room c.other.invariant.room,
)

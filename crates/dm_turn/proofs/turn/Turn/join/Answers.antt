use Rattle.std.proofs.Common.{rules, ◌+◌, arith, ap, ◌∙◌, ◌≡◌}
use Rattle.dm_turn.proofs.Keeps.{joins, settles}
use Rattle.dm_turn.proofs.Views.{idle_of}
use Rattle.dm_turn.proofs.turn.Turn.join.Goals as goal

pub join_seat-requires : goal.join_seat-requires
join_seat-requires g c = (
  search rules,
  search rules,
  search rules,
  search rules,
  joins g.S.HasHistory.history g.S.HasHistory.base _ _ c.pass.inside.seat.id c.pass.inside.seat.me.0 c.other.inside.seat.id c.other.inside.seat.me.0
      c.pass.invariant.room c.other.invariant.room
      (idle_of c.pass.inside.seat.me.0.phase (ap (λ v. v.holds) c.pass.view_is ∙ c.requires.idle.0) c.pass.invariant.called)
      (idle_of c.other.inside.seat.me.0.phase (ap (λ v. v.holds) c.other.view_is ∙ c.requires.idle.1) c.other.invariant.called),
)

pub load-requires : goal.load-requires
load-requires g c =
    let rooms : c.join_seat.new.seat.me.0.room ≡ c.pass.inside.seat.me.0.room + c.other.inside.seat.me.0.room = ap (λ m. m.0.room) c.join_seat.ensures.2 in (
      search rules,
      search rules,
      settles g.S.HasHistory.history g.S.HasHistory.base _ _ _ _ c.join_seat.new.seat.me (omega (arith, rooms, c.pass.invariant.room)),
    )

use Rattle.std.proofs.Common.{map}
use Rattle.dm_rounds.specs.Inside.Jobs.{InRounds}
use Rattle.dm_crew.specs.Passes.{desk_of, IsSamePass}
use Rattle.dm_crew.specs.Inside.Displays.{AreUp}
use Rattle.dm_crew.proofs.rounds.Crew.answer_feeds.Given as goal

abbrev pub invariant-loop : goal.invariant-loop
invariant-loop g l =
    IsSamePass l.fn.main l.main
    × InRounds g.S.Source.left g.S.Source.is_sound l.fn.feeds.items (desk_of l.self.plans g.P.Seat.base l.fn.main) l.self.batch (desk_of l.self.plans g.P.Seat.base l.main) (map (λ b. b.value) l.jobs.items)
    × AreUp (λ b. (goal.Board-dyn g (b.vtable, b.value)).place b.value) (λ b. (goal.Board-dyn g (b.vtable, b.value)).times b.value)
    (λ b. (goal.Board-dyn g (b.vtable, b.value)).flags b.value) (λ b. (goal.Board-dyn g (b.vtable, b.value)).faults b.value) (λ b. (goal.Board-dyn g (b.vtable, b.value)).is_sound b.value)
    g.P.Seat.base l.main.seen l.display l.fn.boards.items l.boards.items

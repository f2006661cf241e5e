use Rattle.std.proofs.Common.{◌≡◌}
use Rattle.dm_publish.specs.Inside.Refreshing.{published_by}
use Rattle.dm_publish.specs.Inside.Turns.{IsPublishedTo}
use Rattle.dm_publish.proofs.showing.Showing.show_listed.Given as goal

abbrev pub invariant-loop-index : goal.invariant-loop-index
invariant-loop-index g l =
    IsPublishedTo (λ b. (goal.Board-dyn g (b.vtable, b.value)).place b.value) (λ b. (goal.Board-dyn g (b.vtable, b.value)).times b.value)
    (λ b. (goal.Board-dyn g (b.vtable, b.value)).flags b.value) (λ b. (goal.Board-dyn g (b.vtable, b.value)).faults b.value) (λ b. (goal.Board-dyn g (b.vtable, b.value)).is_sound b.value)
    l.net l.fn.self.last (published_by l.shown) l.entry l.fn.boards.items l.boards.items l.fn.self.notes l.self.notes l.index
    × (l.self.boards ≡ l.fn.self.boards) × (l.self.events ≡ l.fn.self.events) × (l.self.last ≡ l.fn.self.last)

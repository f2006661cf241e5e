use Rattle.std.proofs.Common.{◌≤◌, vec_capacity}
use Rattle.dm_publish.specs.Inside.Refreshing.{Gathers, published_by}
use Rattle.dm_publish.proofs.refreshing.gather.Given as goal

abbrev pub invariant-loop-listed : goal.invariant-loop-listed
invariant-loop-listed g l =
    Gathers l.net (published_by l.shown) ((goal.Board-dyn g (l.board.vtable, l.board.value)).place l.board.value)
    ((goal.Board-dyn g (l.board.vtable, l.board.value)).times l.board.value)
    ((goal.Board-dyn g (l.board.vtable, l.board.value)).flags l.board.value) l.part l.listed-index l.changes.items
    × (vec_capacity l.initial.changes ≤ vec_capacity l.changes)

use Rattle.std.proofs.Common.{◌≤◌, vec_capacity}
use Rattle.dm_publish.specs.Inside.Refreshing.{GathersFlags}
use Rattle.dm_publish.proofs.refreshing.gather_flags.Given as goal

abbrev pub invariant-loop-listed : goal.invariant-loop-listed
invariant-loop-listed g l =
    GathersFlags l.net l.shown.cancelled.now ((goal.Board-dyn g (l.board.vtable, l.board.value)).place l.board.value)
    ((goal.Board-dyn g (l.board.vtable, l.board.value)).flags l.board.value) l.part l.listed-index l.changes.items
    × (vec_capacity l.initial.changes ≤ vec_capacity l.changes)

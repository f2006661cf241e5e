use Rattle.std.proofs.Common.{map}
use Rattle.dm_input.specs.Stops.{IsKept}
use Rattle.dm_commands.specs.Inside.Stages.{OpenedFirst}
use Rattle.dm_commands.proofs.feeds.open_feeds.Given as goal

abbrev pub invariant-loop-name : goal.invariant-loop-name
invariant-loop-name g l =
    IsKept g.H.Shelf.files g.H.Shelf.is_sound l.initial.shelf l.shelf
    × OpenedFirst g.H.Src.Source.left g.H.Src.Source.is_sound (g.H.Shelf.files l.initial.shelf) (g.H.Shelf.is_sound l.initial.shelf) (map (λ name. name.now) l.names) l.name-index l.feeds.items

use Rattle.std.proofs.Common.{◌≤◌, take, All}
use Rattle.std.specs.List.{flat_map}
use Rattle.dm_outside.specs.Printing.{Gathers}
use Rattle.dm_feed.specs.Parts.{largest_id}
use Rattle.dm_cert.specs.SolvedTexts.{spaced_number}
use Rattle.dm_cert.proofs.solved_text.put_spaced.Given as goal

abbrev pub invariant-loop-id : goal.invariant-loop-id
invariant-loop-id g l =
    Gathers g.K.Sink.taken g.K.Sink.faults l.fn.sink l.sink l.fn.page l.page (flat_map (λ id. spaced_number (g.I.Numbered.number id)) (take l.id-index l.ids))
    × All (λ id. g.I.Numbered.number id ≤ largest_id) (take l.id-index l.ids)

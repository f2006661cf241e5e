use Rattle.dm_rows.specs.Inside.Delays.{count_of, number_of, place_numbered}
use Rattle.dm_rows.proofs.StartDelays.{HasSetDelays}
use Rattle.dm_rows.proofs.starting.delays_of.Given as goal

abbrev pub invariant-loop-record : goal.invariant-loop-record
invariant-loop-record l =
    HasSetDelays (count_of l.net l.delayed) (number_of l.net l.delayed) (place_numbered l.net l.delayed) l.records l.record-index l.delays.items

use Rattle.std.proofs.Common.{ℕ, ◌<◌, get_or}
use Rattle.dm_base.specs.declared.ids.EventId.{EventId}
use Rattle.dm_parts.specs.Shares.{NamesArrival}
use Rattle.dm_check_parts.proofs.shares.are_arrivals.Given as goal

abbrev pub invariant-loop-id : goal.invariant-loop-id
invariant-loop-id l = (j : ℕ) (d : EventId) → j < l.id-index → NamesArrival l.net (get_or l.ids j d)

use Rattle.std.proofs.Common.{ℕ, ◌<◌, get_or}
use Rattle.dm_base.specs.declared.ids.ActId.{ActId}
use Rattle.dm_parts.specs.Shares.{NamesChange}
use Rattle.dm_check_parts.proofs.shares.are_changes.Given as goal

abbrev pub invariant-loop-id : goal.invariant-loop-id
invariant-loop-id l = (j : ℕ) (d : ActId) → j < l.id-index → NamesChange l.net (get_or l.ids j d)

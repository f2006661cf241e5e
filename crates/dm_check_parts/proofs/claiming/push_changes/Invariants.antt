use Rattle.std.proofs.Common.{◌≡◌, ◌++◌, map, take}
use Rattle.dm_base.specs.declared.ids.ActId.{ActId}
use Rattle.dm_check_parts.proofs.claiming.push_changes.Given as goal

abbrev pub invariant-loop-change : goal.invariant-loop-change
invariant-loop-change l = l.ids.items ≡ l.initial.ids.items ++ map (λ (a : ActId). a.0) (take l.change-index l.changes)

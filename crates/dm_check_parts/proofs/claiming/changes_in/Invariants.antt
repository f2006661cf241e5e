use Rattle.std.proofs.Common.{◌≡◌, take}
use Rattle.dm_check_parts.specs.Inside.Claimed.{all_changes}
use Rattle.dm_check_parts.proofs.claiming.changes_in.Given as goal

abbrev pub invariant-loop-part : goal.invariant-loop-part
invariant-loop-part l = l.ids.items ≡ all_changes (take l.part-index l.parts)

use Rattle.std.proofs.Common.{◌≡◌, ◌+◌, take}
use Rattle.dm_check_parts.specs.Inside.Plans.{bounds_of}
use Rattle.dm_check_parts.proofs.plans.total_bound.Given as goal

abbrev pub invariant-loop-part : goal.invariant-loop-part
invariant-loop-part l = l.total ≡ bounds_of (take l.part-index l.parts) + l.rest

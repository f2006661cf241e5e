use Rattle.std.proofs.Common.{◌≡◌, take}
use Rattle.dm_check_rows.proofs.refusals.are_ids.Given as goal

abbrev pub invariant-loop-i : goal.invariant-loop-i
invariant-loop-i l = take l.i l.one ≡ take l.i l.other

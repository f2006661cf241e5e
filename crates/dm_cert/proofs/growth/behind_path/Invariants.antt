use Rattle.std.proofs.Common.{◌≡◌, take}
use Rattle.dm_cert.proofs.growth.behind_path.Given as goal

abbrev pub invariant-loop-i : goal.invariant-loop-i
invariant-loop-i l = take l.i l.whole ≡ take l.i l.path

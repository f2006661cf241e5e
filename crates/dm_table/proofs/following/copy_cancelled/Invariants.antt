use Rattle.dm_table.specs.Inside.Noted.{AreCopied}
use Rattle.dm_table.proofs.following.copy_cancelled.Given as goal

abbrev pub invariant-loop-place : goal.invariant-loop-place
invariant-loop-place l = AreCopied l.rows.cancelled l.place l.into

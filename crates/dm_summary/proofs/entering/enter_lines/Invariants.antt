use Rattle.std.proofs.Common.{take}
use Rattle.dm_summary.specs.Inside.Lines.{HasEntered}
use Rattle.dm_summary.proofs.entering.enter_lines.Given as goal

-- so many lines were entered
abbrev pub invariant-loop-place : goal.invariant-loop-place
invariant-loop-place l = HasEntered l.fn.table (take l.place l.lines) l.table

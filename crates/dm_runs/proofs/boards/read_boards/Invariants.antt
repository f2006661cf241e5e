use Rattle.std.proofs.Common.{◌≤◌, vec_len}
use Rattle.dm_base.specs.declared.limits.TheConstants.{BOARDS}
use Rattle.dm_runs.proofs.boards.read_boards.Given as goal

abbrev pub invariant-loop-line : goal.invariant-loop-line
invariant-loop-line l = vec_len l.boards ≤ BOARDS

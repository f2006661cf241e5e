use Rattle.std.proofs.Common.{◌≤◌, vec_len}
use Rattle.dm_runs.proofs.run.Given as goal

abbrev pub invariant-loop-board : goal.invariant-loop-board
invariant-loop-board g l = vec_len l.boards ≤ l.board-index

use Rattle.std.proofs.Common.{◌≤◌, vec_len}
use Rattle.dispatcher.proofs.main.Given as goal

abbrev pub invariant-loop-stop : goal.invariant-loop-stop
invariant-loop-stop g l = vec_len l.boards ≤ l.stop-index

use Rattle.std.proofs.Common.{ℕ, ◌<◌, ◌≤◌, get_or, length}
use Rattle.dm_watch.proofs.round.have_new.Given as goal

abbrev pub invariant-loop-watched : goal.invariant-loop-watched
invariant-loop-watched g l = (k : ℕ) (d : _) → k < l.watched-index → length (get_or l.feeds k d).log.items ≤ (get_or l.feeds k d).shown

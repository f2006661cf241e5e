use Rattle.dm_rows.specs.Decide.{is_free_pair, pair_choice}
use Rattle.dm_rows.proofs.Choosing.{IsListed}
use Rattle.dm_rows.proofs.choices.with_free_pairs.Given as goal

abbrev pub invariant-loop-p : goal.invariant-loop-p
invariant-loop-p l = IsListed (is_free_pair l.net l.rows) (pair_choice l.net) l.fn.choices.items l.p l.all.items

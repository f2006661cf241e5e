use Rattle.std.specs.Prelude.{vec_capacity}
use Rattle.dm_rows.proofs.Choosing.{KeepsFree}
use Rattle.dm_rows.proofs.choices.free_among.Given as goal

abbrev pub invariant-loop-decision : goal.invariant-loop-decision
invariant-loop-decision l = KeepsFree l.net l.rows l.decisions (vec_capacity l.fn.room) l.decision-index l.free.items (vec_capacity l.free)

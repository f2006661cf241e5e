use Rattle.std.specs.Prelude.{true}
use Rattle.dm_priced.specs.Priced.{IsPriced}
use Rattle.dm_evaluate.specs.Inside.Moves.{TurnsAmong}
use Rattle.dm_paths.specs.RowsRead.{IsAmong}
use Rattle.dm_evaluate.proofs.headways.hold_each.Given as goal

abbrev pub invariant-loop-a : goal.invariant-loop-a
invariant-loop-a l = IsPriced l.net l.priced × TurnsAmong l.net l.pair (IsAmong l.row l.a-index) true l.initial.priced l.priced

use Rattle.dm_outlook.proofs.Behind.{StandBehind}
use Rattle.dm_outlook.proofs.outlook.rows_behind.Given as goal

abbrev pub invariant-loop-entry : goal.invariant-loop-entry
invariant-loop-entry l = StandBehind l.table.network l.table.start l.entries l.entry-index l.rows

use Rattle.dm_rows.proofs.StartCancelled.{HasCancelled}
use Rattle.dm_rows.proofs.starting.start_rows_without.Given as goal

abbrev pub invariant-loop-id : goal.invariant-loop-id
invariant-loop-id l = HasCancelled l.net l.events l.activities l.cancelled l.id-index l.rows

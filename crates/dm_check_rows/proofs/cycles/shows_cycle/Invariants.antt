use Rattle.dm_rows.specs.Active.{ShowsCycle}
use Rattle.dm_check_rows.specs.Inside.Walking.{HasWalked, LeadsBack}
use Rattle.dm_check_rows.proofs.cycles.shows_cycle.Given as goal

abbrev pub invariant-loop-id : goal.invariant-loop-id
invariant-loop-id l = record {
  walked : HasWalked l.net l.rows l.start l.ids l.id-index l.at;
  back : ShowsCycle l.net l.rows l.ids → LeadsBack l.net l.rows l.start l.ids l.id-index l.at;
}

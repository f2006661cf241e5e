use Rattle.dm_network.proofs.Formation.{activities_are, ends_refused}
use Rattle.dm_network.proofs.forming.activities_from.Goals as goal

pub returns-in-Err-clause-err : goal.returns-in-Err-clause-err
returns-in-Err-clause-err c =
    ends_refused c.args.events.now c.args.rows.now c.in-Err.fault
    (rw c.in_default.is at c.in_ok-id.ensures) c.in-Err.ensures.err

pub returns-in-Some-first_zero_headway-clause-err : goal.returns-in-Some-first_zero_headway-clause-err
returns-in-Some-first_zero_headway-clause-err c = (
  rw c.in_default.is at c.in_ok-id.ensures,
  c.in-Ok.ensures.ok.known,
  c.in-Some-first_zero_headway.ensures,
)

pub returns-clause-ok : goal.returns-clause-ok
returns-clause-ok c =
    activities_are c.args.events.now c.args.rows.now c.in-Ok.activities.items c.in_ok-sorted.sorted.items c.in-Ok.ensures.ok
    c.in_ok-sorted.ensures.same c.in_ok-sorted.ensures.ascend
    (rw c.in_default.is at c.in_ok-id.ensures)
    c.in_default-first_zero_headway.ensures

use Rattle.std.proofs.Common.{subst, ap}
use Rattle.dm_network.specs.Build.{NoneStandsTwice, event_ids}
use Rattle.dm_network.proofs.Formation.{events_are}
use Rattle.dm_network.proofs.forming.events_from.Goals as goal

pub returns-clause-ok : goal.returns-clause-ok
returns-clause-ok c =
    let once = rw c.in_default.is at c.in_ok-id.ensures in
    events_are c.args.rows.items c.in_ok-events.events.items c.in_ok-events.ensures.same c.in_ok-events.ensures.ascend
    (subst (λ ids. NoneStandsTwice ids) (ap event_ids c.deref.ensures.value) once)

use Rattle.std.proofs.Common.{sym, subst, slice_get}
use Rattle.dm_words.specs.Asked.{names_in}
use Rattle.dm_serve.specs.Inside.Stages.{EndsStart}
use Rattle.dm_serve.specs.declared.starting.StartStop.{StartStop}
use Rattle.dm_serve.proofs.Stopping.{unread_named}
use Rattle.dm_serve.proofs.ending.end_start.Goals as goal

pub returns-in-Fault-clause-ends : goal.returns-in-Fault-clause-ends
returns-in-Fault-clause-ends g c =
    subst (λ (stopped : StartStop). EndsStart g.K.Sink.taken g.K.Sink.faults c.args.store.now (names_in c.args.feeds) stopped c.args.out.now c.end_unread-in-Fault.new.out c.end_unread-in-Fault.result) (sym c.in-Fault.is)
    (unread_named g.K.Sink.taken g.K.Sink.faults c.args.out.now c.end_unread-in-Fault.new.out c.end_unread-in-Fault.result (slice_get (names_in c.args.feeds) c.in-Fault.place) c.name_at.result.now c.name_at.ensures c.end_unread-in-Fault.ensures)

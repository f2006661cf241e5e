use Rattle.std.proofs.Common.{sym, subst, slice_get}
use Rattle.dm_words.specs.Asked.{names_in}
use Rattle.dm_serve.specs.Inside.Stages.{EndsUnopened}
use Rattle.dm_serve.specs.declared.opening.Unopened.{Unopened}
use Rattle.dm_serve.proofs.Stopping.{unread_named}
use Rattle.dm_serve.proofs.ending.end_unopened.Goals as goal

pub returns-in-Feed-clause-ends : goal.returns-in-Feed-clause-ends
returns-in-Feed-clause-ends g c =
    subst (λ (stopped : Unopened). EndsUnopened g.K.Sink.taken g.K.Sink.faults (names_in c.args.names) stopped c.args.out.now c.end_unread.new.out c.end_unread.result) (sym c.in-Feed.is)
    (unread_named g.K.Sink.taken g.K.Sink.faults c.args.out.now c.end_unread.new.out c.end_unread.result (slice_get (names_in c.args.names) c.in-Feed.place) c.name_at.result.now c.name_at.ensures c.end_unread.ensures)

use Rattle.dm_serve.proofs.Begun.{renew_stops, settled_at_ok}
use Rattle.dm_serve.proofs.starting.take_up.Goals as goal

pub returns-in-Err-clause-takes : goal.returns-in-Err-clause-takes
returns-in-Err-clause-takes g c = λ s contents first penalty plans new logs t. ((c.put_right.ensures.right s contents first penalty plans new t).0, c.put_right.ensures.told t.found.told, tt)

pub returns-clause-takes : goal.returns-clause-takes
returns-clause-takes g c = λ s contents first penalty plans new logs t.
    let begun = (c.in-Ok.ensures.right s contents first penalty plans new t).1 in
    let puts = c.renew_replies.ensures.puts s begun.contents first c.args.journal.now.store logs begun.kept begun.starting in
    (puts.0, puts.1, settled_at_ok g.S.Store s first c.args.journal.now.store c.renew_replies.new.store c.put_right.new.journal begun c.renew_replies.result puts.2)

pub returns-clause-stops : goal.returns-clause-stops
returns-clause-stops g c =
    renew_stops g.S.Store c.args.journal.now.store c.put_right.new.journal.store c.renew_replies.new.store c.renew_replies.result c.put_right.ensures.later c.renew_replies.ensures.stops

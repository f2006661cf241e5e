use Rattle.std.proofs.Common.{◌≤◌}
use Rattle.dm_serve.proofs.Answering.{RenewedTo}
use Rattle.dm_serve.proofs.replies.renew_replies.Given as goal

abbrev pub invariant-loop-place : goal.invariant-loop-place
invariant-loop-place g l =
    record {
      renewed : RenewedTo g.S.Store l.feeds l.place l.fn.store l.store;
      later : g.S.Store.faults l.fn.store ≤ g.S.Store.faults l.store;
    }

use Rattle.std.proofs.Common.{◌≤◌}
use Rattle.dm_serve.specs.Inside.Replies.{Looks}
use Rattle.dm_serve.proofs.replies.compare_replies.Given as goal

abbrev pub invariant-loop-place : goal.invariant-loop-place
invariant-loop-place g l =
    record {
      looks : Looks g.S.Store l.fn.store l.store;
      later : g.S.Store.faults l.fn.store ≤ g.S.Store.faults l.store;
    }

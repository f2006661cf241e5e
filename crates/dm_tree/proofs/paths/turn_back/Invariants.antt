use Rattle.std.proofs.Common.{◌≡◌, vec_len}
use Rattle.dm_tree.specs.Pending.{pending, IsFront}
use Rattle.dm_tree.proofs.paths.turn_back.Given as goal

abbrev pub invariant-loop-decision : goal.invariant-loop-decision
invariant-loop-decision l =
    record {
      same : pending l.initial.path.items ≡ pending l.path.items;
      front : IsFront l.path.items l.initial.path.items;
    }

abbrev pub decreases-loop-decision : goal.decreases-loop-decision
decreases-loop-decision l = vec_len l.path

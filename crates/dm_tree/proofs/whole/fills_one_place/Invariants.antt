use Rattle.std.proofs.Common.{◌≡◌, ◌≤◌, false, drop}
use Rattle.dm_tree.specs.Inside.Filling.{fills}
use Rattle.dm_tree.proofs.whole.fills_one_place.Given as goal

abbrev pub invariant-loop-i : goal.invariant-loop-i
invariant-loop-i l =
    record {
      few : l.more ≤ l.i;
      same : fills false 0 l.nodes ≡ fills false l.more (drop l.i l.nodes);
    }

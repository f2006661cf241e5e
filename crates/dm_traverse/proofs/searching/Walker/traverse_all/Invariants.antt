use Rattle.std.specs.Prelude.{◌≡◌, ◌≤◌}
use Rattle.dm_traverse.specs.Inside.Searching.{IsStanding, Keeps}
use Rattle.dm_traverse.proofs.searching.Walker.traverse_all.Given as goal

abbrev pub invariant-loop : goal.invariant-loop
invariant-loop l =
    record {
      stands : IsStanding l.fn.self l.standing;
      same : l.self ≡ l.fn.self;
      no_dearer : l.standing.best.cost ≤ l.fn.standing.best.cost;
      kept : Keeps l.fn.standing.nodes.items l.standing.nodes.items;
    }

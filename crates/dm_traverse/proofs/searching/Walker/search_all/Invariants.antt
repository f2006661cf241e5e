use Rattle.std.proofs.Common.{◌≡◌, ◌-◌, ◌≤◌, ◌++◌, length, reverse}
use Rattle.dm_traverse.specs.Inside.Searching.{AreBest, IsSearched, Keeps}
use Rattle.dm_traverse.proofs.searching.Walker.search_all.Given as goal

abbrev pub invariant-loop-node : goal.invariant-loop-node
invariant-loop-node l =
    record {
      best : AreBest l.fn.self l.now.choices l.now.cost;
      search : IsSearched l.fn.self l.limit l.now.cost l.search.nodes.items (reverse l.search.due.items) l.search.path.items;
      same : l.self ≡ l.fn.self;
      no_dearer : l.now.cost ≤ l.fn.best.cost;
      kept : Keeps (l.fn.search.nodes.items ++ reverse l.fn.search.due.items) (l.search.nodes.items ++ reverse l.search.due.items);
    }

abbrev pub decreases-loop-node : goal.decreases-loop-node
decreases-loop-node l = l.fn.self.budget - length l.search.nodes.items

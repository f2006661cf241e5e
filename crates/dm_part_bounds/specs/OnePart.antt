-- A plan as a plan by one part, which has all terms of the cost.
use Rattle.std.specs.Prelude.{ℕ, ◌==◌, Bool, [], ◌∷◌, map, filter, length, if◌then◌else◌}
use Rattle.std.specs.List.{range_with_len}
use Rattle.dm_network.specs.Net.{Net, event_at, activity_at, is_change}
use Rattle.dm_rows.specs.Cost.{is_arrival}
use Rattle.dm_tree.specs.declared.forms.Node.{Node}
use Rattle.dm_tree.specs.declared.forms.Node.TheVariants.{Inner, Cycle, Bound, Open, Hole}
use Rattle.dm_tree.specs.declared.forms.Mark.TheVariants.{Optimal, Open as OpenMark}
use Rattle.dm_tree.specs.declared.plans.Plan.{Plan}
use Rattle.dm_parts.specs.declared.shares.Share.{Share}
use Rattle.dm_parts.specs.declared.parts.PartNode.{PartNode}
use Rattle.dm_parts.specs.declared.parts.PartNode.TheVariants.{Inner as InnerNode, Cycle as CycleNode, Leaf}
use Rattle.dm_parts.specs.declared.parts.PlanByParts.{PlanByParts}

-- all arrivals and all changes of a network, by place
abbrev pub arrives : Net → ℕ → Bool
arrives net i = is_arrival (event_at net i).kind

abbrev pub changes : Net → ℕ → Bool
changes net a = is_change (activity_at net a).kind

abbrev pub all_terms : Net → Share
all_terms net =
    record {
      arrivals = map (λ i. (event_at net i).id) (filter (arrives net) (range_with_len 0 (length net.events)));
      changes = map (λ a. (activity_at net a).id) (filter (changes net) (range_with_len 0 (length net.activities)));
    }

-- a node of a tree as one of a part: what a leaf carries is its cost, whether or not that closes it; a whole tree has no hole
abbrev pub part_node : Node → PartNode
part_node (Inner c) = InnerNode c
part_node Cycle = CycleNode
part_node (Bound c) = Leaf c
part_node (Open c) = Leaf c
part_node Hole = CycleNode

-- the plan with its tree as the one part, and nothing beside it
abbrev pub in_one_part : Net → Plan → PlanByParts
in_one_part net plan =
    record {
      entry = plan.entry;
      choices = plan.choices;
      cost = plan.cost;
      parts = record { share = all_terms net; tree = map part_node plan.tree; bound = plan.bound } ∷ [];
      rest = 0;
      bound = plan.bound;
      mark = if plan.bound == plan.cost then Optimal else OpenMark;
    }

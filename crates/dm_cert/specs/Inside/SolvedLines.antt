-- How the lines of the text of a plan by parts are read from their front: a function for each function of the code.
use Rattle.std.specs.Prelude.{ℕ, ◌+◌, ◌==◌, ◌&&◌, ◌||◌, nat_lt, nat_le, not, Bool, if◌then◌else◌, List, codes, Option, Some, None, option_and_then}
use Rattle.std.specs.Option.{option_map}
use Rattle.dm_text.specs.Inside.Parts.{behind}
use Rattle.dm_tree.specs.declared.forms.Node.{Node}
use Rattle.dm_tree.specs.declared.forms.Mark.{Mark}
use Rattle.dm_tree.specs.declared.forms.Mark.TheVariants as mark
use Rattle.dm_tree.specs.Trees.{choice_in}
use Rattle.dm_parts.specs.declared.parts.PartNode.{PartNode}
use Rattle.dm_parts.specs.declared.parts.PartNode.TheVariants.{Inner, Cycle, Leaf}
use Rattle.dm_cert.specs.PlanTexts.{largest_cost}
use Rattle.dm_cert.specs.declared.solved_lines.SolvedHeading.{SolvedHeading}
use Rattle.dm_cert.specs.declared.solved_lines.PartHeading.{PartHeading}
use Rattle.dm_cert.specs.Inside.PlanLines.{or_else, whole, number_behind, marked, change_in, pair_in}

-- ---- the first line

abbrev pub solved_mark_in : List ℕ → Option (Mark × List ℕ)
solved_mark_in line =
    or_else (marked mark.Optimal (behind (codes "solved optimal") line)) (marked mark.Open (behind (codes "solved open") line))

abbrev pub solved_heading_of : Mark → ℕ → ℕ → ℕ → ℕ → ℕ → SolvedHeading
solved_heading_of m cost bound choices parts nodes =
    record { mark = m; cost = cost; bound = bound; choices = choices; parts = parts; nodes = nodes }

abbrev pub solved_counts_in : Mark → ℕ → ℕ → List ℕ → Option (SolvedHeading × List ℕ)
solved_counts_in m cost bound line =
    option_and_then
    (λ p. option_and_then
    (λ q. option_map (λ r. (solved_heading_of m cost bound p.0 q.0 r.0, r.1)) (number_behind largest_cost (codes " nodes ") q.1))
    (number_behind largest_cost (codes " parts ") p.1))
    (number_behind largest_cost (codes " choices ") line)

abbrev pub solved_costs_in : Mark → List ℕ → Option (SolvedHeading × List ℕ)
solved_costs_in m line =
    option_and_then (λ p. option_and_then (λ q. solved_counts_in m p.0 q.0 q.1) (number_behind largest_cost (codes " bound ") p.1))
    (number_behind largest_cost (codes " cost ") line)

-- without parts there are no nodes
abbrev pub is_solved_heading : SolvedHeading → Bool
is_solved_heading heading = nat_lt 0 heading.parts || (heading.nodes == 0)

-- the value, where it passes
abbrev pub passing : {X : Type 0} → (X → Bool) → Option X → Option X
passing test None = None
passing test (Some x) = if test x then Some x else None

abbrev pub solved_heading_in : List ℕ → Option SolvedHeading
solved_heading_in line = passing is_solved_heading (whole (option_and_then (λ p. solved_costs_in p.0 p.1) (solved_mark_in line)))

-- ---- a part

abbrev pub part_ids_in : List ℕ → Option ((ℕ × ℕ) × List ℕ)
part_ids_in line =
    option_and_then (λ p. option_map (λ q. ((p.0, q.0), q.1)) (number_behind largest_cost (codes " changes ") p.1))
    (number_behind largest_cost (codes "part events ") line)

abbrev pub part_heading_of : ℕ → ℕ → ℕ → ℕ → PartHeading
part_heading_of arrivals changes nodes bound = record { arrivals = arrivals; changes = changes; nodes = nodes; bound = bound }

abbrev pub part_nodes_in : ℕ → ℕ → List ℕ → Option (PartHeading × List ℕ)
part_nodes_in arrivals changes line =
    option_and_then (λ p. option_map (λ q. (part_heading_of arrivals changes p.0 q.0, q.1)) (number_behind largest_cost (codes " bound ") p.1))
    (number_behind largest_cost (codes " nodes ") line)

-- some node, no more nodes and ids than are left, and of the last part all nodes that are
abbrev pub is_part_heading : ℕ → ℕ → ℕ → PartHeading → Bool
is_part_heading parts nodes ids heading =
    nat_lt 0 heading.nodes && nat_le heading.nodes nodes && nat_le (heading.arrivals + heading.changes) ids
    && (not (parts == 1) || (heading.nodes == nodes))

abbrev pub part_heading_in : ℕ → ℕ → ℕ → List ℕ → Option PartHeading
part_heading_in parts nodes ids line =
    passing (is_part_heading parts nodes ids) (whole (option_and_then (λ p. part_nodes_in p.0.0 p.0.1 p.1) (part_ids_in line)))

-- ---- nodes and the rest

abbrev pub part_leaf_in : List ℕ → Option (PartNode × List ℕ)
part_leaf_in line =
    or_else (option_map (λ rest. (Cycle, rest)) (behind (codes "cycle") line))
    (option_map (λ p. (Leaf p.0, p.1)) (number_behind largest_cost (codes "leaf ") line))

-- a choice that was read, as a node of a part
abbrev pub as_inner : Node × List ℕ → Option (PartNode × List ℕ)
as_inner p = option_map (λ c. (Inner c, p.1)) (choice_in p.0)

abbrev pub part_node_in_front : List ℕ → Option (PartNode × List ℕ)
part_node_in_front line =
    or_else (option_and_then as_inner (change_in line)) (or_else (option_and_then as_inner (pair_in line)) (part_leaf_in line))

abbrev pub part_node_in : List ℕ → Option PartNode
part_node_in line = whole (part_node_in_front line)

abbrev pub rest_in : List ℕ → Option ℕ
rest_in line = whole (number_behind largest_cost (codes "rest ") line)

-- The texts of plans by parts in print: from the word `solved` to the line feed of the line with the rest. Version 2 alone has
-- them.
use Rattle.std.specs.Prelude.{ℕ, ◌<◌, ◌≤◌, List, [], ◌∷◌, length, map, codes, All}
use Rattle.std.specs.List.{flat_map}
use Rattle.std.specs.List.Sorted.{IsStrictlyIncreasing}
use Rattle.std.specs.Fmt.{decimal}
use Rattle.dm_outside.specs.Printing.{joined}
use Rattle.dm_rows.specs.Sides.{IsOrdered}
use Rattle.dm_tree.specs.declared.forms.Node.TheVariants as node
use Rattle.dm_feed.specs.Parts.{largest_id}
use Rattle.dm_parts.specs.declared.shares.Share.{Share}
use Rattle.dm_parts.specs.declared.parts.PartNode.{PartNode}
use Rattle.dm_parts.specs.declared.parts.PartNode.TheVariants.{Inner, Cycle, Leaf}
use Rattle.dm_parts.specs.declared.parts.Part.{Part}
use Rattle.dm_parts.specs.declared.parts.PlanByParts.{PlanByParts}
use Rattle.dm_parts.specs.Sizes.{nodes_of, ids_of, most_ids}
use Rattle.dm_cert.specs.PlanTexts.{line_end, mark_text, choice_text, node_text, FitsDecision, FitsNode, largest_cost}

-- ---- a part

-- the numbers of ids
abbrev pub arrivals_of : Share → List ℕ
arrivals_of share = map (λ e. e.0) share.arrivals

abbrev pub changes_of : Share → List ℕ
changes_of share = map (λ a. a.0) share.changes

-- a number with a space in front
abbrev pub spaced_number : ℕ → List ℕ
spaced_number n = 32 ∷ decimal n

-- ids on one line behind a word; where there are none the line is left out
abbrev pub ids_text : List ℕ → List ℕ → List ℕ
ids_text word [] = []
ids_text word (id ∷ ids) = joined (word ∷ flat_map spaced_number (id ∷ ids) ∷ line_end ∷ [])

-- an inner node and a cycle are spelled as those of a plan's tree
abbrev pub part_node_text : PartNode → List ℕ
part_node_text (Inner c) = node_text (node.Inner c)
part_node_text Cycle = node_text node.Cycle
part_node_text (Leaf c) = joined (codes "leaf " ∷ decimal c ∷ line_end ∷ [])

-- how many arrivals, changes and nodes follow, and the bound
unfoldable pub part_heading : Part → List ℕ
part_heading part =
    joined (codes "part events " ∷ decimal (length part.share.arrivals) ∷ codes " changes " ∷ decimal (length part.share.changes)
    ∷ codes " nodes " ∷ decimal (length part.tree) ∷ codes " bound " ∷ decimal part.bound ∷ line_end ∷ [])

unfoldable pub part_text : Part → List ℕ
part_text part =
    joined (part_heading part ∷ ids_text (codes "events") (arrivals_of part.share)
    ∷ ids_text (codes "changes") (changes_of part.share) ∷ flat_map part_node_text part.tree ∷ [])

-- ---- the whole

unfoldable pub solved_heading : PlanByParts → List ℕ
solved_heading plan =
    joined (codes "solved " ∷ mark_text plan.mark ∷ codes " cost " ∷ decimal plan.cost ∷ codes " bound " ∷ decimal plan.bound
    ∷ codes " choices " ∷ decimal (length plan.choices) ∷ codes " parts " ∷ decimal (length plan.parts)
    ∷ codes " nodes " ∷ decimal (nodes_of plan.parts) ∷ line_end ∷ [])

-- what stands in no share
unfoldable pub rest_text : ℕ → List ℕ
rest_text rest = joined (codes "rest " ∷ decimal rest ∷ line_end ∷ [])

-- a plan by parts has one spelling
unfoldable pub spelling_of_solved : PlanByParts → List ℕ
spelling_of_solved plan =
    joined (solved_heading plan ∷ flat_map choice_text plan.choices ∷ flat_map part_text plan.parts ∷ rest_text plan.rest ∷ [])

-- ---- what has a spelling

-- of a pair the smaller id stands first
abbrev pub IsSpelledPartNode : PartNode → Type 0
IsSpelledPartNode (Inner c) = IsOrdered c
IsSpelledPartNode Cycle = Unit {0}
IsSpelledPartNode (Leaf c) = Unit {0}

-- ids ascend, and there is some node
pub record IsSpelledPart (part : Part) : Type 0 where
  pub arrivals : IsStrictlyIncreasing (arrivals_of part.share)
  pub changes : IsStrictlyIncreasing (changes_of part.share)
  pub some_node : 0 < length part.tree
  pub nodes : All IsSpelledPartNode part.tree

pub record IsSpelledSolved (plan : PlanByParts) : Type 0 where
  pub parts : All IsSpelledPart plan.parts
  pub few_ids : ids_of plan.parts ≤ most_ids

-- ---- what plans by parts may hold

-- ids and costs are not too large
abbrev pub FitsPartNode : PartNode → Type 0
FitsPartNode (Inner c) = FitsNode (node.Inner c)
FitsPartNode Cycle = Unit {0}
FitsPartNode (Leaf c) = c ≤ largest_cost

pub record FitsPart (part : Part) : Type 0 where
  pub arrivals : All (λ id. id ≤ largest_id) (arrivals_of part.share)
  pub changes : All (λ id. id ≤ largest_id) (changes_of part.share)
  pub nodes : All FitsPartNode part.tree
  pub bound : part.bound ≤ largest_cost

pub record FitsSolved (plan : PlanByParts) : Type 0 where
  pub choices : All FitsDecision plan.choices
  pub cost : plan.cost ≤ largest_cost
  pub bound : plan.bound ≤ largest_cost
  pub parts : All FitsPart plan.parts
  pub rest : plan.rest ≤ largest_cost

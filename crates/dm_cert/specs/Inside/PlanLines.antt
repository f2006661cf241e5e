-- How the lines of a plan's text are read from their front: a function for each function of the code.
use Rattle.std.specs.Prelude.{◌≡◌, ℕ, if◌then◌else◌, nat_lt, List, [], ◌∷◌, codes, Option, Some, None, option_and_then}
use Rattle.std.specs.Option.{option_map}
use Rattle.dm_base.specs.declared.ids.EventId.{EventId}
use Rattle.dm_base.specs.declared.ids.ActId.{ActId}
use Rattle.dm_text.specs.Inside.Parts.{behind, number_in_front}
use Rattle.dm_rows.specs.declared.messages.Choice.TheVariants.{Change, Pair}
use Rattle.dm_rows.specs.declared.messages.Decision.{Decision}
use Rattle.dm_rows.specs.declared.messages.Decision.TheVariants.{Keep, Drop, First}
use Rattle.dm_tree.specs.declared.forms.Node.{Node}
use Rattle.dm_tree.specs.declared.forms.Node.TheVariants.{Inner, Cycle, Bound, Open}
use Rattle.dm_tree.specs.declared.forms.Mark.{Mark}
use Rattle.dm_tree.specs.declared.forms.Mark.TheVariants as mark
use Rattle.dm_feed.specs.Parts.{largest_id}
use Rattle.dm_cert.specs.PlanTexts.{largest_cost}
use Rattle.dm_cert.specs.declared.plan_lines.Heading.{Heading}
use Rattle.dm_cert.specs.PlansRead.{size_words}

abbrev pub event : ℕ → EventId
event n = record { 0 = n }

abbrev pub act : ℕ → ActId
act n = record { 0 = n }

-- the first, or else the second
abbrev pub or_else : {X : Type 0} → Option X → Option X → Option X
or_else (Some x) other = Some x
or_else None other = other

-- what was read, where nothing stands behind it
abbrev pub whole : {X : Type 0} → Option (X × List ℕ) → Option X
whole None = None
whole (Some (x, [])) = Some x
whole (Some (x, c ∷ rest)) = None

-- a number behind the text
abbrev pub number_behind : ℕ → List ℕ → List ℕ → Option (ℕ × List ℕ)
number_behind largest text line = option_and_then (number_in_front largest) (behind text line)

-- ---- decisions

abbrev pub keep_in : List ℕ → Option (Decision × List ℕ)
keep_in line = option_map (λ p. (Keep (act p.0), p.1)) (number_behind largest_id (codes " keep ") line)

abbrev pub drop_in : List ℕ → Option (Decision × List ℕ)
drop_in line = option_map (λ p. (Drop (act p.0), p.1)) (number_behind largest_id (codes " drop ") line)

abbrev pub first_in : List ℕ → Option (Decision × List ℕ)
first_in line =
    option_and_then (λ p. option_map (λ q. (First (event p.0) (event q.0), q.1)) (number_behind largest_id (codes " ") p.1))
    (number_behind largest_id (codes " first ") line)

abbrev pub decision_in : List ℕ → Option (Decision × List ℕ)
decision_in line = or_else (keep_in line) (or_else (drop_in line) (first_in line))

abbrev pub choice_in : List ℕ → Option Decision
choice_in line = whole (option_and_then decision_in (behind (codes "choice") line))

-- ---- the first line

-- the mark, behind the word in front
abbrev pub marked : Mark → Option (List ℕ) → Option (Mark × List ℕ)
marked m rest = option_map (λ r. (m, r)) rest

abbrev pub mark_in : List ℕ → Option (Mark × List ℕ)
mark_in line = or_else (marked mark.Optimal (behind (codes "plan optimal") line)) (marked mark.Open (behind (codes "plan open") line))

abbrev pub heading_of : Mark → ℕ → ℕ → ℕ → ℕ → Heading
heading_of m cost bound choices size = record { mark = m; cost = cost; bound = bound; choices = choices; size = size }

abbrev pub counts_in : ℕ → Mark → ℕ → ℕ → List ℕ → Option (Heading × List ℕ)
counts_in version m cost bound line =
    option_and_then (λ p. option_map (λ q. (heading_of m cost bound p.0 q.0, q.1)) (number_behind largest_cost (size_words version) p.1))
    (number_behind largest_cost (codes " choices ") line)

abbrev pub costs_in : ℕ → Mark → List ℕ → Option (Heading × List ℕ)
costs_in version m line =
    option_and_then (λ p. option_and_then (λ q. counts_in version m p.0 q.0 q.1) (number_behind largest_cost (codes " bound ") p.1))
    (number_behind largest_cost (codes " cost ") line)

abbrev pub heading_in : ℕ → List ℕ → Option Heading
heading_in version line = whole (option_and_then (λ p. costs_in version p.0 p.1) (mark_in line))

-- ---- leaves and nodes

abbrev pub bound_in : List ℕ → List ℕ → Option (Node × List ℕ)
bound_in text line = option_map (λ p. (Bound p.0, p.1)) (number_behind largest_cost text line)

abbrev pub open_in : List ℕ → List ℕ → Option (Node × List ℕ)
open_in text line = option_map (λ p. (Open p.0, p.1)) (number_behind largest_cost text line)

abbrev pub cycle_in : List ℕ → List ℕ → Option (Node × List ℕ)
cycle_in text line = option_map (λ rest. (Cycle, rest)) (behind text line)

-- a leaf behind the words of its kind
abbrev pub leaf_behind : List ℕ → List ℕ → List ℕ → List ℕ → Option (Node × List ℕ)
leaf_behind cycle bound opened line = or_else (cycle_in cycle line) (or_else (bound_in bound line) (open_in opened line))

-- a leaf without its path
abbrev pub leaf_in : List ℕ → Option (Node × List ℕ)
leaf_in line = leaf_behind (codes "leaf cycle") (codes "leaf bound ") (codes "leaf open ") line

abbrev pub change_in : List ℕ → Option (Node × List ℕ)
change_in line = option_map (λ p. (Inner (Change (act p.0)), p.1)) (number_behind largest_id (codes "inner change ") line)

-- the pair, if it stands in order
abbrev pub ordered_pair : ℕ → ℕ → List ℕ → Option (Node × List ℕ)
ordered_pair small large rest = if nat_lt small large then Some (Inner (Pair (event small) (event large)), rest) else None

abbrev pub pair_in : List ℕ → Option (Node × List ℕ)
pair_in line =
    option_and_then (λ p. option_and_then (λ q. ordered_pair p.0 q.0 q.1) (number_behind largest_id (codes " ") p.1))
    (number_behind largest_id (codes "inner pair ") line)

abbrev pub end_in : List ℕ → Option (Node × List ℕ)
end_in line = leaf_behind (codes "cycle") (codes "bound ") (codes "open ") line

abbrev pub node_in_front : List ℕ → Option (Node × List ℕ)
node_in_front line = or_else (change_in line) (or_else (pair_in line) (end_in line))

abbrev pub node_in : List ℕ → Option Node
node_in line = whole (node_in_front line)

-- what is read is a value exactly where the line spells it
pub record Reads {V : Type 0} (spells : V → List ℕ → Type 0) (line : List ℕ) (read : Option V) : Type 0 where
  pub is : (v : V) → read ≡ Some v → spells v line
  pub back : (v : V) → spells v line → read ≡ Some v

-- Which choices are in a window, what stands outside it, and which plans are true there. What is held is never in it.
use Rattle.std.specs.Prelude.{ℕ, ◌&&◌, ◌++◌, nat_le, Bool, not, List, length, map, filter}
use Rattle.std.specs.List.{range_with_len, list_any}
use Rattle.dm_network.specs.Net.{Net, event_at, activity_at, pair_at}
use Rattle.dm_rows.specs.declared.messages.Choice.{Choice}
use Rattle.dm_rows.specs.declared.messages.Decision.{Decision}
use Rattle.dm_rows.specs.Rows.{RowsValue, kept_at, small_first_at}
use Rattle.dm_rows.specs.Relax.{is_same_choice}
use Rattle.dm_rows.specs.Decide.{is_free_change, is_free_pair, change_choice, pair_choice}
use Rattle.dm_tree.specs.declared.plans.Plan.{Plan}
use Rattle.dm_tree.specs.Plans.{Task, IsTruePlan}
use Rattle.dm_parts.specs.declared.parts.PlanByParts.{PlanByParts}
use Rattle.dm_parts.specs.Parts.{IsTruePlanByParts}
use Rattle.dm_paths.specs.Decisions.{change_decision, pair_decision}
use Rattle.dm_stretch.specs.declared.windows.Window.{Window}

-- a time is in the window from one time to another, and both of them are
abbrev pub is_within : ℕ → ℕ → ℕ → Bool
is_within from to time = nat_le from time && nat_le time to

-- the choice is one of these
abbrev pub is_held : List Choice → Choice → Bool
is_held held choice = list_any (λ other. is_same_choice other choice) held

-- the head of the activity, both events of the pair at a place are scheduled in the window, and its choice is not held
abbrev pub is_change_within : Net → Window → ℕ → Bool
is_change_within net window a =
    is_within window.from window.to (event_at net (activity_at net a).head).time && not (is_held window.held (change_choice net a))

abbrev pub is_pair_within : Net → Window → ℕ → Bool
is_pair_within net window p =
    (is_within window.from window.to (event_at net (pair_at net p).small).time
    && is_within window.from window.to (event_at net (pair_at net p).large).time)
    && not (is_held window.held (pair_choice net p))

-- a free change, a free pair in the window, and one outside it or held
abbrev pub is_change_in : Net → RowsValue → Window → ℕ → Bool
is_change_in net rows window a = is_free_change net rows a && is_change_within net window a

abbrev pub is_pair_in : Net → RowsValue → Window → ℕ → Bool
is_pair_in net rows window p = is_free_pair net rows p && is_pair_within net window p

abbrev pub is_change_outside : Net → RowsValue → Window → ℕ → Bool
is_change_outside net rows window a = is_free_change net rows a && not (is_change_within net window a)

abbrev pub is_pair_outside : Net → RowsValue → Window → ℕ → Bool
is_pair_outside net rows window p = is_free_pair net rows p && not (is_pair_within net window p)

-- the free choices in the window: the changes in ascending id, and after them the pairs in ascending order of their ids
abbrev pub choices_in : Net → RowsValue → Window → List Choice
choices_in net rows window =
    map (change_choice net) (filter (is_change_in net rows window) (range_with_len 0 (length net.activities)))
    ++ map (pair_choice net) (filter (is_pair_in net rows window) (range_with_len 0 (length net.pairs)))

-- The base of a window: the decisions that set every other free choice as the rows have it, in the order of free choices.
abbrev pub window_base : Net → RowsValue → Window → List Decision
window_base net rows window =
    map (λ a. change_decision net a (kept_at rows a))
    (filter (is_change_outside net rows window) (range_with_len 0 (length net.activities)))
    ++ map (λ p. pair_decision net p (small_first_at rows p))
    (filter (is_pair_outside net rows window) (range_with_len 0 (length net.pairs)))

-- the task of a window: every path begins with its base, and the choices in it may be made
abbrev pub window_task : Net → RowsValue → ℕ → Window → ℕ → Task
window_task net rows penalty window budget =
    record {
      net = net;
      rows = rows;
      penalty = penalty;
      base = window_base net rows window;
      allowed = choices_in net rows window;
      budget = budget;
    }

-- a true plan of the rows, the window and the budget
abbrev pub IsTrueWindowPlan : Net → RowsValue → ℕ → Window → ℕ → Plan → Type 0
IsTrueWindowPlan net rows penalty window budget plan = IsTruePlan (window_task net rows penalty window budget) plan

-- a true plan by parts of the rows, the window and the budget
abbrev pub IsTrueWindowSolution : Net → RowsValue → ℕ → Window → ℕ → PlanByParts → Type 0
IsTrueWindowSolution net rows penalty window budget plan = IsTruePlanByParts (window_task net rows penalty window budget) plan

-- Plans for the connection at one station with event 1 a minute late and penalty 10, as worked out by hand.
use Rattle.std.specs.Prelude.{ℕ, [], ◌∷◌}
use Rattle.dm_rows.specs.declared.messages.Choice.TheVariants.{Change}
use Rattle.dm_rows.specs.declared.messages.Decision.TheVariants.{Drop, First}
use Rattle.dm_rows.specs.Examples.{event_id, activity_id, connection, delayed}
use Rattle.dm_tree.specs.declared.forms.Node.TheVariants.{Inner, Bound, Open}
use Rattle.dm_tree.specs.declared.forms.Mark.TheVariants.{Optimal, Open as OpenMark}
use Rattle.dm_tree.specs.declared.plans.Plan.{Plan}
use Rattle.dm_tree.specs.Plans.{Task, whole_task, IsTruePlan}

-- a plan of the connection with such a budget
abbrev pub delayed_task : ℕ → Task
delayed_task budget = whole_task connection delayed 10 budget

-- the change is dropped, and the second train goes first
abbrev pub worked_plan : Plan
worked_plan =
    record {
      entry = 1;
      choices = Drop (activity_id 5) ∷ First (event_id 5) (event_id 3) ∷ [];
      cost = 940000;
      bound = 940000;
      mark = Optimal;
      tree = Inner (Change (activity_id 5)) ∷ Bound 1075000 ∷ Bound 940000 ∷ [];
    }

-- nothing is changed, and the root is the one leaf, at the cost of the rows themselves
abbrev pub present_choices_marked_optimal : Plan
present_choices_marked_optimal =
    record { entry = 1; choices = []; cost = 1075000; bound = 1075000; mark = Optimal; tree = Bound 1075000 ∷ [] }

-- nothing is changed, and the root is left open
abbrev pub left_open : Plan
left_open =
    record { entry = 1; choices = []; cost = 1075000; bound = 900000; mark = OpenMark; tree = Open 900000 ∷ [] }

-- with a budget of 7 nodes the root alone may not be left open
abbrev pub LeavesNoneOpen : Type 0
LeavesNoneOpen = IsTruePlan (delayed_task 7) left_open → ⊥

-- the plan that drops the change is true
abbrev pub WorkedPlanIsTrue : Type 0
WorkedPlanIsTrue = IsTruePlan (delayed_task 100) worked_plan

-- the present choices cost more than the relaxed root, so that they are not shown optimal by it
abbrev pub PresentChoicesAreNotShown : Type 0
PresentChoicesAreNotShown = (budget : ℕ) → IsTruePlan (delayed_task budget) present_choices_marked_optimal → ⊥

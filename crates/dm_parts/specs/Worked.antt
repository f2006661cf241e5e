-- Plans by parts for the connection at one station with event 1 a minute late and penalty 10, as worked out by hand.
use Rattle.std.specs.Prelude.{ℕ, [], ◌∷◌}
use Rattle.dm_rows.specs.declared.messages.Choice.TheVariants.{Change}
use Rattle.dm_rows.specs.declared.messages.Decision.TheVariants.{Drop, First}
use Rattle.dm_rows.specs.Examples.{event_id, activity_id}
use Rattle.dm_tree.specs.declared.forms.Mark.TheVariants.{Optimal, Open}
use Rattle.dm_tree.specs.Worked.{delayed_task}
use Rattle.dm_parts.specs.declared.shares.Share.{Share}
use Rattle.dm_parts.specs.declared.parts.PartNode.TheVariants.{Inner, Leaf}
use Rattle.dm_parts.specs.declared.parts.Part.{Part}
use Rattle.dm_parts.specs.declared.parts.PlanByParts.{PlanByParts}
use Rattle.dm_parts.specs.Parts.{IsTruePlanByParts}

-- the arrival of the second train, and the change to it
abbrev pub second_train : Share
second_train = record { arrivals = event_id 6 ∷ []; changes = activity_id 5 ∷ [] }

-- With the change the second train is 35 seconds late, for 5 passengers. Without it 4 passengers miss it.
abbrev pub second_part : Part
second_part =
    record {
      share = second_train;
      tree = Inner (Change (activity_id 5)) ∷ Leaf 175000 ∷ Leaf 40000 ∷ [];
      bound = 40000;
    }

-- The change is dropped, and the second train goes first. The first train is 50 and 40 seconds late whatever is decided, for 10
-- passengers each.
abbrev pub worked_plan_by_parts : PlanByParts
worked_plan_by_parts =
    record {
      entry = 1;
      choices = Drop (activity_id 5) ∷ First (event_id 5) (event_id 3) ∷ [];
      cost = 940000;
      parts = second_part ∷ [];
      rest = 900000;
      bound = 940000;
      mark = Optimal;
    }

-- the second train counted twice
abbrev pub counted_twice : PlanByParts
counted_twice =
    record {
      entry = 1;
      choices = Drop (activity_id 5) ∷ First (event_id 5) (event_id 3) ∷ [];
      cost = 940000;
      parts = second_part ∷ second_part ∷ [];
      rest = 900000;
      bound = 980000;
      mark = Open;
    }

-- the plan with one part is true
abbrev pub WorkedPlanByPartsIsTrue : Type 0
WorkedPlanByPartsIsTrue = IsTruePlanByParts (delayed_task 100) worked_plan_by_parts

-- terms may not be counted twice
abbrev pub CountsNothingTwice : Type 0
CountsNothingTwice = (budget : ℕ) → IsTruePlanByParts (delayed_task budget) counted_twice → ⊥

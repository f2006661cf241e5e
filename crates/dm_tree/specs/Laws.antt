-- What holds of all true plans.
use Rattle.std.specs.Prelude.{ℕ, ◌<◌}
use Rattle.dm_base.specs.declared.limits.TheConstants.{ENTRIES}
use Rattle.dm_network.specs.Net.{Net}
use Rattle.dm_network.specs.Start.{IsNetwork}
use Rattle.dm_rows.specs.declared.messages.Message.TheVariants.{Adopt}
use Rattle.dm_rows.specs.Rows.{RowsValue}
use Rattle.dm_rows.specs.Refuse.{Refuses, RefusesNothing}
use Rattle.dm_tree.specs.declared.plans.Plan.{Plan}
use Rattle.dm_tree.specs.Plans.{whole_task, IsTruePlan}

-- Nothing refuses the choices of a true plan of the rows at a history that has room.
abbrev pub TruePlansAreAdmitted : Type 0
TruePlansAreAdmitted =
    (net : Net) (rows : RowsValue) (penalty budget n : ℕ) (plan : Plan) → IsNetwork net → n < ENTRIES →
    IsTruePlan (whole_task net rows penalty budget) plan → RefusesNothing (Refuses net rows n (Adopt plan.choices))

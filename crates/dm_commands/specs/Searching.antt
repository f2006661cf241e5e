-- Which kind of plan is searched for.
use Rattle.std.specs.Prelude.{ℕ, Bool, if◌then◌else◌}
use Rattle.dm_desk.specs.declared.searches.Search.{Search}
use Rattle.dm_desk.specs.declared.searches.Search.TheVariants.{Plan as ForPlan, Solve as ForParts}

-- a plan of so many nodes, or one by parts
abbrev pub search_for : Bool → ℕ → Search
search_for solve budget = if solve then ForParts budget else ForPlan budget

-- At which entry a plan of a window is made, and what becomes of it at the last.
use Rattle.std.specs.Prelude.{ℕ, ◌≡◌, ◌≤◌, List, length, Option, Some, None}
use Rattle.dm_network.specs.Net.{Net}
use Rattle.dm_rows.specs.declared.messages.Decision.{Decision}
use Rattle.dm_rows.specs.declared.messages.Entry.{Entry}
use Rattle.dm_rows.specs.declared.rows.Snapshot.{Snapshot}
use Rattle.dm_rows.specs.History.{rows_at}
use Rattle.dm_rows.specs.Rows.{RowsValue}
use Rattle.dm_parts.specs.declared.kinds.AnyPlan.{AnyPlan}
use Rattle.dm_parts.specs.declared.kinds.AnyPlan.TheVariants.{Whole, ByParts}
use Rattle.dm_parts.specs.Kinds.{chosen_of}
use Rattle.dm_parts.specs.Sizes.{ids_of, most_ids}
use Rattle.dm_desk.specs.declared.searches.Search.{Search}
use Rattle.dm_desk.specs.declared.searches.Search.TheVariants.{Plan as ForPlan, Solve as ForParts}
use Rattle.dm_stretch.specs.Minimal.{IsMinimal, IsPlanOver}
use Rattle.dm_stretch.specs.Rebasing.{IsCarriedCycle, IsFirstNotFree, IsRebased}
use Rattle.dm_stretch.specs.declared.thinning.Minimal.{Minimal}
use Rattle.dm_stretch.specs.declared.windows.Window.{Window}
use Rattle.dm_stretch.specs.Windows.{IsTrueWindowPlan, IsTrueWindowSolution}
use Rattle.dm_outlook.specs.declared.outlook.Carried.{Carried}
use Rattle.dm_outlook.specs.declared.outlook.Carried.TheVariants.{Rebased, NotFree, Cycle}
use Rattle.dm_outlook.specs.declared.outlook.Outlook.{Outlook}

-- the entry that is named, or the last one
abbrev pub entry_at : Option ℕ → ℕ → ℕ
entry_at None last = last
entry_at (Some n) last = n

-- the rows after all entries
abbrev pub newest : Net → RowsValue → List Entry → Snapshot
newest net start history = record { entry = length history; rows = rows_at net start history (length history) }

-- What becomes of choices in newer rows: those that differ from them, with what they cost; or the first that is not free there; or a
-- cycle of the rows with those that differ.
abbrev pub IsCarried : Net → Snapshot → ℕ → List Decision → Carried → Type 0
IsCarried net newer penalty choices (Rebased rebased) = IsRebased net newer penalty choices rebased
IsCarried net newer penalty choices (NotFree decision) = IsFirstNotFree net newer.rows choices decision
IsCarried net newer penalty choices (Cycle ids) = IsCarriedCycle net newer.rows choices ids

-- the same where an entry is named, and nothing where none is
abbrev pub IsCarriedFrom : Net → Snapshot → ℕ → List Decision → Option ℕ → Option Carried → Type 0
IsCarriedFrom net newer penalty choices None None = Unit {0}
IsCarriedFrom net newer penalty choices None (Some carried) = ⊥
IsCarriedFrom net newer penalty choices (Some n) None = ⊥
IsCarriedFrom net newer penalty choices (Some n) (Some carried) = IsCarried net newer penalty choices carried

-- the plan's choices are decisions over the rows, and cost what it says
abbrev pub IsOver : Net → RowsValue → ℕ → AnyPlan → Type 0
IsOver net rows penalty (Whole plan) = IsPlanOver net rows penalty plan.choices plan.cost
IsOver net rows penalty (ByParts plan) = IsPlanOver net rows penalty plan.choices plan.cost

-- which of a plan's choices are kept where those that are worth little are given back, if that is asked
abbrev pub IsMinimalFor : Net → RowsValue → ℕ → AnyPlan → Option ℕ → Option Minimal → Type 0
IsMinimalFor net rows penalty plan None None = Unit {0}
IsMinimalFor net rows penalty plan None (Some minimal) = ⊥
IsMinimalFor net rows penalty plan (Some most) None = ⊥
IsMinimalFor net rows penalty (Whole plan) (Some most) (Some minimal) = IsMinimal net rows penalty plan.choices plan.cost most minimal
IsMinimalFor net rows penalty (ByParts plan) (Some most) (Some minimal) = IsMinimal net rows penalty plan.choices plan.cost most minimal

-- a true plan of the window, of the kind that is asked for; a text has room for the ids of one by parts
abbrev pub PlansWindow : Net → RowsValue → ℕ → Window → Search → AnyPlan → Type 0
PlansWindow net rows penalty window (ForPlan budget) (Whole plan) = IsTrueWindowPlan net rows penalty window budget plan
PlansWindow net rows penalty window (ForPlan budget) (ByParts plan) = ⊥
PlansWindow net rows penalty window (ForParts budget) (Whole plan) = ⊥
PlansWindow net rows penalty window (ForParts budget) (ByParts plan) =
    IsTrueWindowSolution net rows penalty window budget plan × (ids_of plan.parts ≤ most_ids)

-- The plan is a true one of the window for the rows at the entry that is named, or at the last; where one is named, it is told what
-- becomes of the plan's choices at the last; and where it is asked, which are kept if those that are worth little are given back.
pub record IsOutlook (net : Net) (start : RowsValue) (penalty : ℕ) (history : List Entry) (window : Window) (asked : Search)
    (at most : Option ℕ) (outlook : Outlook) : Type 0 where
  pub entry : outlook.entry ≡ entry_at at (length history)
  pub plan : PlansWindow net (rows_at net start history (entry_at at (length history))) penalty window asked outlook.plan
  pub minimal : IsMinimalFor net (rows_at net start history (entry_at at (length history))) penalty outlook.plan most outlook.minimal
  pub carried : IsCarriedFrom net (newest net start history) penalty (chosen_of outlook.plan).choices at outlook.carried

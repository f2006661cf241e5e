-- What is asked of what searches for plans of windows, and what it gives.
use Rattle.std.specs.Prelude.{Result, IfOk}
use Rattle.std.specs.Borrow.{Bor}
use Rattle.std.specs.declared.alloc.AllocError.{AllocError}
use Rattle.dm_parts.specs.declared.kinds.AnyPlan.{AnyPlan}
use Rattle.dm_desk.specs.declared.searches.PlanRequest.{PlanRequest}
use Rattle.dm_desk.specs.Searching.{MaySearch}
use Rattle.dm_stretch.specs.declared.windows.Window.{Window}
use Rattle.dm_outlook.specs.Outlooks.{PlansWindow}

-- a plan of a window, of the kind that is asked for
abbrev pub FindsInWindow : PlanRequest → Window → AnyPlan → Type 0
FindsInWindow request window plan = PlansWindow request.net.now request.snapshot.now.rows request.penalty window request.asked plan

-- It may be asked for a plan of either kind of any window of any network's rows within the limits, and gives a true one.
pub record SearchesWindows (pre : Bor PlanRequest → Bor Window → Type 0)
    (post : Bor PlanRequest → Bor Window → Result AnyPlan AllocError → Type 0) : Type 0 where
  pub may_ask : (request : Bor PlanRequest) (window : Bor Window) → MaySearch request.now → pre request window
  pub gives : (request : Bor PlanRequest) (window : Bor Window) (given : Result AnyPlan AllocError) → post request window given
      → IfOk given (FindsInWindow request.now window.now)

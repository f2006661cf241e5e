-- What is asked of what searches for plans, and what it gives.
use Rattle.std.specs.Prelude.{◌≤◌, Result, IfOk}
use Rattle.std.specs.Borrow.{Bor}
use Rattle.std.specs.declared.alloc.AllocError.{AllocError}
use Rattle.dm_base.specs.declared.limits.TheConstants.{BUDGET, PENALTY, WORKERS}
use Rattle.dm_rows.specs.Active.{HasNoCycle}
use Rattle.dm_rows.specs.Rows.{IsSized}
use Rattle.dm_parts.specs.declared.kinds.AnyPlan.{AnyPlan}
use Rattle.dm_desk.specs.declared.searches.PlanRequest.{PlanRequest}
use Rattle.dm_desk.specs.Planning.{FindsFor, budget_of}

-- what is asked for is within the limits
pub record MaySearch (request : PlanRequest) : Type 0 where
  pub sized : IsSized request.net.now request.snapshot.now.rows
  pub no_cycle : HasNoCycle request.net.now request.snapshot.now.rows
  pub affordable : request.penalty ≤ PENALTY
  pub some : 1 ≤ budget_of request.asked
  pub bounded : budget_of request.asked ≤ BUDGET
  pub worker : 1 ≤ request.workers
  pub few : request.workers ≤ WORKERS

-- a plan of the kind that is asked for
abbrev pub FindsAsked : PlanRequest → AnyPlan → Type 0
FindsAsked request plan = FindsFor request.net.now request.penalty request.snapshot.now request.asked plan

-- It may be asked for a plan of either kind of any network's rows within the limits, and gives a true one.
pub record Searches (pre : Bor PlanRequest → Type 0) (post : Bor PlanRequest → Result AnyPlan AllocError → Type 0) : Type 0 where
  pub may_ask : (request : Bor PlanRequest) → MaySearch request.now → pre request
  pub gives : (request : Bor PlanRequest) (given : Result AnyPlan AllocError) → post request given → IfOk given (FindsAsked request.now)

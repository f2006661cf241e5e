use Rattle.std.proofs.Common.{subst}
use Rattle.dm_rows.specs.Active.{HasNoCycle}
use Rattle.dm_rows.specs.Cost.{Costs}
use Rattle.dm_rows.specs.Rows.{RowsValue}
use Rattle.dm_times.specs.Faults.{RefusesTimes}
use Rattle.dm_stretch.proofs.GivenBack.{cycle_shown}
use Rattle.dm_stretch.proofs.thinning.cost_with.Goals as goal

pub returns-in-Ok : goal.returns-in-Ok
returns-in-Ok c = record {
  no_cycle = subst (HasNoCycle c.args.net.now) c.in_ok-set.ensures.set c.in-Ok.ensures.no_cycle;
  cost =
      subst (λ (set : RowsValue). Costs c.args.net.now set c.args.penalty c.cost.result) c.in_ok-set.ensures.set
      (record { times = c.in-Ok.times; least = c.in-Ok.ensures.least; cost = c.cost.ensures.cost });
}

pub returns-in-Err-Cycle : goal.returns-in-Err-Cycle
returns-in-Err-Cycle c = λ none.
    let shown = subst (RefusesTimes c.args.net.now c.in_ok-set.set) c.in-Err-Cycle.field-0-is c.in-Err-Cycle.ensures.refused in
    cycle_shown c.args.net.now c.in_ok-set.set _ _ c.in_ok-set.ensures.set shown none

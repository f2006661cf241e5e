use Rattle.std.proofs.lemmas.Result.{IfOk-weaker, IfErr-weaker, on_ok_weaker}
use Rattle.dm_rows.specs.Timetable.{IsLeastHolding}
use Rattle.dm_settle.specs.Constraints.{RefusesTimes as RefusesGiven, graph_given}
use Rattle.dm_settle.specs.Settling.{AreLeast}
use Rattle.dm_times.specs.Faults.{RefusesHolding}
use Rattle.dm_times.proofs.Filled.{least_for_held, no_cycle_of_held, refused_for_held}
use Rattle.dm_times.proofs.scratch.least_holding.Goals as goal

pub returns-clause-least : goal.returns-clause-least
returns-clause-least g c =
    let held = g.H.Holding.held c.args.holding.now in
    IfOk-weaker c.least_times.result (AreLeast (graph_given c.args.net.now c.in_ok-constraints.constraints)) (IsLeastHolding c.args.net.now c.args.rows.now held)
    (λ times least. least_for_held c.args.net.now c.args.rows.now held _ c.in_ok-constraints.ensures times c.reveal.ensures.network.formed.ends_are_known
    c.requires.enters_no_passed least)
    c.least_times.ensures.least

pub returns-clause-no_cycle : goal.returns-clause-no_cycle
returns-clause-no_cycle g c =
    on_ok_weaker c.least_times.result (no_cycle_of_held c.args.net.now c.args.rows.now (g.H.Holding.held c.args.holding.now) _ c.in_ok-constraints.ensures)
    c.least_times.ensures.no_cycle

pub returns-clause-refused : goal.returns-clause-refused
returns-clause-refused g c =
    IfErr-weaker c.least_times.result (RefusesGiven c.args.net.now c.in_ok-constraints.constraints) (RefusesHolding c.args.net.now (g.H.Holding.held c.args.holding.now))
    (refused_for_held c.args.net.now c.args.rows.now (g.H.Holding.held c.args.holding.now) _ c.in_ok-constraints.ensures) c.least_times.ensures.refused

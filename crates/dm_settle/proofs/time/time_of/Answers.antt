use Rattle.std.proofs.Common.{sym, ◌∙◌, arith, slice_index}
use Rattle.dm_network.specs.Held.{is_held}
use Rattle.dm_settle.specs.Constraints.{graph_given}
use Rattle.dm_settle.proofs.Early.{join_is_early}
use Rattle.dm_settle.proofs.Held.{into_may_be_held}
use Rattle.dm_settle.proofs.Joining.{joined_by, joined_still, joined_whole}
use Rattle.dm_network.proofs.EventRows.{leads_into}
use Rattle.dm_settle.proofs.time.time_of.Goals as goal
use Rattle.dm_settle.proofs.time.time_of.Goals.{then-is_held, else-is_held}

pub is_held-requires : goal.is_held-requires
is_held-requires c =
    into_may_be_held c.args.net.now c.args.constraints.now c.requires.sized c.args.event c.loop-a.a-index c.args.into.now c.requires.row (omega arith)

pub time_along-requires-clause-is_activity : goal.time_along-requires-clause-is_activity
time_along-requires-clause-is_activity c =
    (leads_into c.args.net.now c.args.event c.loop-a.a-index c.args.into.now c.requires.row (omega arith)).is_activity

pub loop-a-preserved : goal.loop-a-preserved
loop-a-preserved c =
    elim c.if-is_held.branch [
      | then-is_held w ↦
          joined_by (graph_given c.args.net.now c.args.constraints.now) c.args.times.now c.args.event c.args.into.now c.loop-a.a-index c.loop-a.time
          c.loop-a.invariant (sym c.is_held.ensures ∙ w.if-is_held.true) w.time_along.result c.if-is_held.time w.time_along.ensures
          (w.time-is ∙ w.max-time.ensures)
      | else-is_held w ↦
          joined_still (graph_given c.args.net.now c.args.constraints.now) c.args.times.now c.args.event c.args.into.now c.loop-a.a-index c.loop-a.time
          c.loop-a.invariant (sym c.is_held.ensures ∙ w.if-is_held.false) c.if-is_held.time w.time-is
    ]

pub returns-clause-join : goal.returns-clause-join
returns-clause-join c =
    joined_whole c.args.net.now (is_held c.args.constraints.now.held) (λ a. slice_index c.args.constraints.now.spans a) (λ i. slice_index c.args.constraints.now.floors i)
    c.args.times.now c.args.event c.args.into.now c.loop-a.a-index c.loop-a.time
    c.loop-a.invariant c.reveal.ensures.network.formed.ends_are_known c.requires.row (omega arith)

pub returns-clause-early : goal.returns-clause-early
returns-clause-early c =
    join_is_early (graph_given c.args.net.now c.args.constraints.now) c.args.times.now c.args.event c.loop-a.time
    (c.within_limits.ensures.of_events c.args.event) c.within_limits.ensures.of_activities c.requires.early
    (joined_whole c.args.net.now (is_held c.args.constraints.now.held) (λ a. slice_index c.args.constraints.now.spans a) (λ i. slice_index c.args.constraints.now.floors i)
    c.args.times.now c.args.event c.args.into.now c.loop-a.a-index c.loop-a.time
    c.loop-a.invariant c.reveal.ensures.network.formed.ends_are_known c.requires.row (omega arith))

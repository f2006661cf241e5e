use Rattle.std.proofs.Common.{◌∙◌, ◌+◌, sym, subst, arith}
use Rattle.dm_order.specs.Value.{OrderValue}
use Rattle.dm_settle.proofs.Held.{out_may_be_held}
use Rattle.dm_live.specs.Inside.Taking.{HasTaken}
use Rattle.dm_live.proofs.OutOf.{none_refused, taken_with, taken_without, taken_whole}
use Rattle.dm_live.proofs.taking.add_out_of.Goals as goal
use Rattle.dm_live.proofs.taking.add_out_of.Goals.{then-is_held+in-Ok, else-is_held}

pub is_held-requires : goal.is_held-requires
is_held-requires c =
    out_may_be_held c.args.net.now c.args.constraints.now c.requires.sized c.args.event c.loop-a.a-index c.args.out_of.now c.requires.out_of (omega arith)

pub unreachable-requires : goal.unreachable-requires
unreachable-requires c =
    none_refused c.args.net.now c.args.event c.args.out_of.now c.requires.out_of c.args.constraints.now c.loop-a.a-index c.args.order.now c.loop-a.order c.loop-a.invariant
    (omega arith) (sym c.is_held.ensures ∙ c.if-is_held.true) c.requires.no_cycle c.add.new.self.cycle c.in_default.ensures.cycle

pub loop-a-preserved : goal.loop-a-preserved
loop-a-preserved c =
    let net = c.args.net.now in
    let event = c.args.event in
    let row = c.args.out_of.now in
    let given = c.args.constraints.now in
    let n = c.loop-a.a-index in
    elim c.if-is_held.branch [
      | then-is_held+in-Ok w ↦
          subst (λ (now : OrderValue). HasTaken net given event row (n + 1) c.args.order.now now) (sym w.order-is)
          (taken_with net event row c.requires.out_of given n c.args.order.now c.loop-a.order c.loop-a.invariant (omega arith) (sym c.is_held.ensures ∙ w.if-is_held.true)
          w.add.new.self w.in-Ok.ensures.order (w.in-Ok.ensures.cycle_stays (omega arith)) w.in-Ok.ensures.held)
      | else-is_held w ↦
          subst (λ (now : OrderValue). HasTaken net given event row (n + 1) c.args.order.now now) (sym w.order-is)
          (taken_without net event row c.requires.out_of given n c.args.order.now c.loop-a.order c.loop-a.invariant (sym c.is_held.ensures ∙ w.if-is_held.false))
    ]

pub returns-clause-held : goal.returns-clause-held
returns-clause-held c =
    taken_whole c.args.net.now c.args.event c.args.out_of.now c.requires.out_of c.args.constraints.now c.loop-a.a-index c.args.order.now c.loop-a.order c.loop-a.invariant
    (omega arith)

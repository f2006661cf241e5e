use Rattle.std.proofs.Common.{ℕ, ◌<◌, true, length, subst, OnErr, arith}
use Rattle.dm_network.specs.Held.{is_held, IsCycleOf}
use Rattle.dm_evaluate.specs.Inside.Moves.{set_where}
use Rattle.dm_paths.specs.Decisions.{is_directed, ReachesNet}
use Rattle.dm_evaluate.proofs.Flipping.{change_cycle}
use Rattle.dm_evaluate.proofs.turning.turn_on.Goals as goal

pub returns-in-Err-clause-cycle : goal.returns-in-Err-clause-cycle
returns-in-Err-clause-cycle g c =
    let act = c.in-Keep.act in
    let is_activity : act < length c.args.net.now.activities = subst (ReachesNet c.args.net.now) c.in-Keep.is c.requires.reaches in
    let size = c.requires.priced.live.sized.held in
    let below : act < length c.args.priced.now.live.given.held = omega arith in
    rw c.in-Keep.is
    (change_cycle c.args.net.now act true c.args.priced.now.live.given.held below c.hold.new.self.live.order.cycle c.in-Err.ensures.cycle)

pub returns-in-First-clause-cycle : goal.returns-in-First-clause-cycle
returns-in-First-clause-cycle g c =
    rw c.in-First.is
    (subst (λ (tail : ℕ). OnErr c.hold_direction.result
    (IsCycleOf c.args.net.now (set_where (is_directed c.args.net.now c.in-First.pair tail) true (is_held c.args.priced.now.live.given.held)) c.hold_direction.new.priced.live.order.cycle))
    c.first_event-first.ensures.first c.hold_direction.ensures.cycle)

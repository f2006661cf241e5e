use Rattle.std.proofs.Common.{◌∙◌, ap, subst, ℕ}
use Rattle.dm_live.specs.Live.{IsFixed, with_floor}
use Rattle.dm_priced.specs.Priced.{PricedValue}
use Rattle.dm_settle.specs.Constraints.{arcs_given}
use Rattle.dm_propagate.proofs.Placing.{placed_alone, flags_freed}
use Rattle.dm_propagate.proofs.turning.set_alone.Goals as goal

pub returns-clause-flags : goal.returns-clause-flags
returns-clause-flags g c =
    flags_freed c.args.priced.now c.fix.new.self c.free.new.self c.args.event (ap (λ (p : PricedValue). p.passed) c.fix.ensures.others)
    (ap (λ (p : PricedValue). p.cancelled) c.fix.ensures.others) (ap (λ (p : PricedValue). p.charged) c.fix.ensures.others) c.fix.ensures.flag
    c.free.ensures.others c.free.ensures.flag

pub returns-clause-place : goal.returns-clause-place
returns-clause-place g c =
    let net = c.args.day.now.net.now in
    let before = c.args.priced.now.live in
    let event = c.args.event in
    placed_alone net c.args.day.now.rows.now event before c.free.new.self.live c.args.steps.now c.requires.ahead c.fix.new.self.live c.fix.new.steps
    (subst (λ (t : ℕ). IsFixed (arcs_given net before.given) event t before c.fix.new.self.live c.args.steps.now c.fix.new.steps) c.floor_of-floor.ensures.value
    c.fix.ensures.fixed)
    (c.fix.ensures.floor ∙ ap (with_floor before.given event) c.floor_of-floor.ensures.value) c.fix.ensures.cycle_stays
    c.free.ensures.given c.free.ensures.times c.free.ensures.marks c.free.ensures.cycle_stays

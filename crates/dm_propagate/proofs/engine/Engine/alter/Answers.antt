use Rattle.std.proofs.Common.{◌≡◌, sym, ap, subst, ◌∙◌}
use Rattle.dm_rows.specs.Resolve.{after_change}
use Rattle.dm_rows.specs.Rows.{RowsValue}
use Rattle.dm_propagate.specs.Engine.{EngineValue, FollowsRows}
use Rattle.dm_propagate.specs.Moved.{TakesInCancelled}
use Rattle.dm_propagate.specs.Inside.Altering.{change_in}
use Rattle.dm_propagate.proofs.Following.{follows_least, follows_no_cycle}
use Rattle.dm_propagate.proofs.engine.Engine.alter.Goals as goal

pub returns-in-Ok-clause-least : goal.returns-in-Ok-clause-least
returns-in-Ok-clause-least g c =
    let same : c.make.new.rows ≡ c.make-in-Ok.new.rows =
    c.make.ensures.made ∙ ap (λ (r : RowsValue). after_change r (change_in c.args.what.now)) c.self.invariant ∙ sym c.make-in-Ok.ensures.made in
    follows_least c.args.net.now c.make-in-Ok.new.rows c.move_to.new.priced.live c.reveal.ensures.network.formed.ends_are_known
    c.in-Ok.ensures.priced.live c.in-Ok.ensures.at_rest
    (subst (λ (r : RowsValue). FollowsRows c.args.net.now r c.move_to.new.priced.live.given) same c.in-Ok.ensures.follows)

pub returns-in-Ok-clause-no_cycle : goal.returns-in-Ok-clause-no_cycle
returns-in-Ok-clause-no_cycle g c =
    let same : c.make.new.rows ≡ c.make-in-Ok.new.rows =
    c.make.ensures.made ∙ ap (λ (r : RowsValue). after_change r (change_in c.args.what.now)) c.self.invariant ∙ sym c.make-in-Ok.ensures.made in
    follows_no_cycle c.args.net.now c.make-in-Ok.new.rows c.move_to.new.priced.live c.in-Ok.ensures.priced.live
    (subst (λ (r : RowsValue). FollowsRows c.args.net.now r c.move_to.new.priced.live.given) same c.in-Ok.ensures.follows)

pub returns-in-Err-clause-least : goal.returns-in-Err-clause-least
returns-in-Err-clause-least g c =
    follows_least c.args.net.now c.self.inside.rows c.move_to.new.priced.live c.reveal.ensures.network.formed.ends_are_known
    c.in-Err.ensures.priced.live c.in-Err.ensures.at_rest c.in-Err.ensures.followed

pub returns-in-Ok-clause-cancelled : goal.returns-in-Ok-clause-cancelled
returns-in-Ok-clause-cancelled g c =
    let same : c.make.new.rows ≡ c.make-in-Ok.new.rows =
    c.make.ensures.made ∙ ap (λ (r : RowsValue). after_change r (change_in c.args.what.now)) c.self.invariant ∙ sym c.make-in-Ok.ensures.made in
    subst (λ (e : EngineValue). TakesInCancelled c.move_to.new.moved.flags e.rows c.make-in-Ok.new.rows) c.self.view_is
    (subst (TakesInCancelled c.move_to.new.moved.flags c.self.inside.rows) same c.in-Ok.ensures.cancelled)

use Rattle.std.proofs.Common.{false, length, ap, ◌∙◌}
use Rattle.std.proofs.lemmas.List.{length-replicate}
use Rattle.dm_marks.specs.Places.{PlaceSetValue}
use Rattle.dm_propagate.proofs.Following.{follows_least, follows_no_cycle, is_engine}
use Rattle.dm_propagate.proofs.engine.Engine.new.Goals as goal

pub returns-clause-least : goal.returns-clause-least
returns-clause-least c =
    follows_least c.args.net.now c.args.rows c.in-Ok.priced.live c.reveal.ensures.network.formed.ends_are_known c.in-Ok.ensures.priced.priced.live
    c.in-Ok.ensures.priced.at_rest c.in-Ok.ensures.priced.follows

pub returns-clause-no_cycle : goal.returns-clause-no_cycle
returns-clause-no_cycle c =
    follows_no_cycle c.args.net.now c.args.rows c.in-Ok.priced.live c.in-Ok.ensures.priced.priced.live c.in-Ok.ensures.priced.follows

pub returns-clause-engine : goal.returns-clause-engine
returns-clause-engine c =
    let held = c.in-Ok.ensures.priced in
    is_engine c.args.net.now c.args.rows c.in-Ok.priced c.in_ok-schedule.schedule.items c.in_ok-moved.moved c.requires held.priced held.at_rest held.follows held.flags
    c.in_ok-schedule.ensures
    (ap (λ (m : PlaceSetValue). length m.flags) c.in_ok-moved.ensures ∙ length-replicate c.events.result false ∙ c.events.ensures.count)

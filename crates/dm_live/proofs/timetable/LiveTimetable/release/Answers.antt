use Rattle.std.proofs.Common.{sym, ap, subst, ◌∙◌, true}
use Rattle.std.specs.Prelude.{slice_set}
use Rattle.dm_network.specs.declared.parts.Activity.{Activity}
use Rattle.dm_live.specs.Live.{IsLive}
use Rattle.dm_live.proofs.Moves.{release_moves}
use Rattle.dm_live.proofs.timetable.LiveTimetable.release.Goals as goal

pub returns-clause-live : goal.returns-clause-live
returns-clause-live c =
    release_moves c.args.net.now (record { given = c.self.inside.constraints; order = c.self.inside.order; times = c.self.inside.times; marks = c.self.inside.marks; fixed = c.self.inside.fixed.items })
    (subst (IsLive c.args.net.now) (sym c.self.view_is) c.requires.live) c.reveal.ensures.network.formed.ends_are_known c.args.a c.requires.is_activity
    c.remove.new.self c.set_held.new.self c.mark.new.self c.remove.ensures.order c.remove.ensures.held c.set_held.ensures
    (c.mark.ensures ∙ ap (λ (v : Activity). slice_set c.self.inside.marks v.head true) c.activity.ensures)

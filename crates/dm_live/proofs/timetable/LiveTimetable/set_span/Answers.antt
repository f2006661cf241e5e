use Rattle.std.proofs.Common.{sym, ap, subst, ◌∙◌, true}
use Rattle.std.specs.Prelude.{slice_set}
use Rattle.dm_network.specs.declared.parts.Activity.{Activity}
use Rattle.dm_live.specs.Live.{IsLive}
use Rattle.dm_live.proofs.Moves.{span_moves}
use Rattle.dm_live.proofs.timetable.LiveTimetable.set_span.Goals as goal

pub returns-clause-live : goal.returns-clause-live
returns-clause-live c =
    span_moves c.args.net.now (record { given = c.self.inside.constraints; order = c.self.inside.order; times = c.self.inside.times; marks = c.self.inside.marks; fixed = c.self.inside.fixed.items })
    (subst (IsLive c.args.net.now) (sym c.self.view_is) c.requires.live) c.reveal.ensures.network.formed.ends_are_known c.args.a c.args.span c.requires.is_activity
    c.set_span.new.self c.mark.new.self c.set_span.ensures
    (c.mark.ensures ∙ ap (λ (v : Activity). slice_set c.self.inside.marks v.head true) c.activity.ensures)

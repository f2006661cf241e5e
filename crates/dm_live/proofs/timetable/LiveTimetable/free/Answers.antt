use Rattle.std.proofs.Common.{sym, subst}
use Rattle.dm_live.specs.Live.{IsLive}
use Rattle.dm_live.proofs.Resting.{live_has_no_cycle}
use Rattle.dm_live.proofs.timetable.LiveTimetable.free.Goals as goal

pub add_out_of-requires-clause-no_cycle : goal.add_out_of-requires-clause-no_cycle
add_out_of-requires-clause-no_cycle c =
    live_has_no_cycle c.args.net.now (record { given = c.self.inside.constraints; order = c.self.inside.order; times = c.self.inside.times; marks = c.self.inside.marks; fixed = c.self.inside.fixed.items })
    (subst (IsLive c.args.net.now) (sym c.self.view_is) c.requires.live)

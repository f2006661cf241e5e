use Rattle.std.proofs.Common.{sym, subst}
use Rattle.std.specs.Prelude.{OnErr}
use Rattle.dm_graph.specs.Arcs.{HasNoCycle}
use Rattle.dm_network.specs.Held.{arcs_of, is_held}
use Rattle.dm_check_plans.specs.Inside.Timetables.{HeldTimetableValue, IsTimetableOf}
use Rattle.dm_check_plans.proofs.Begun.{still_room}
use Rattle.dm_check_plans.proofs.held_timetable.HeldTimetable.follow.Goals as goal

pub returns-clause-room : goal.returns-clause-room
returns-clause-room c =
    still_room c.args.net.now (record { kept = c.self.inside.kept; first = c.self.inside.first }) c.follow.new.self (subst (IsTimetableOf c.args.net.now) (sym c.self.view_is) c.requires.timetable)
    c.follow.ensures.room c.follow.ensures.held c.follow.ensures.keeps

pub returns-clause-cyclic : goal.returns-clause-cyclic
returns-clause-cyclic c =
    subst (λ (t : HeldTimetableValue). OnErr c.follow.result (HasNoCycle (arcs_of c.args.net.now (is_held t.kept.held)) → ⊥)) c.self.view_is c.follow.ensures.cyclic

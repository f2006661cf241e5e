use Rattle.std.proofs.Common.{List, Bool, ap, subst, ◌∙◌}
use Rattle.std.specs.Prelude.{OnErr}
use Rattle.dm_graph.specs.Arcs.{HasNoCycle}
use Rattle.dm_network.specs.Held.{arcs_of, is_held}
use Rattle.dm_check_times.specs.Timetables.{KeptTimetableValue}
use Rattle.dm_check_times.proofs.kept_timetable.KeptTimetable.follow.Goals as goal

pub returns-clause-cyclic : goal.returns-clause-cyclic
returns-clause-cyclic c =
    subst (λ (f : List Bool). OnErr c.follow.result (HasNoCycle (arcs_of c.args.net.now (is_held f)) → ⊥))
    (c.deref.ensures.value ∙ ap (λ (t : KeptTimetableValue). t.held) c.self.view_is) c.follow.ensures.cyclic

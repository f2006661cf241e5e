use Rattle.std.proofs.Common.{List, Bool, length, ap, ◌∙◌}
use Rattle.dm_check_times.proofs.OfRows.{spans_are_bindings, floors_are_early}
use Rattle.dm_check_plans.proofs.Begun.{floors_known, still_of_rows}
use Rattle.dm_check_plans.proofs.held_timetable.HeldTimetable.new.Goals as goal

pub begin_again-requires : goal.begin_again-requires
begin_again-requires c =
    let net = c.args.net.now in
    let rows = c.args.rows.now in
    let kept = c.in_ok-kept.kept in
    let of_rows = c.in_ok-kept.ensures.rows in
    let early = floors_are_early net rows kept.floors c.reveal.ensures.within c.is_within_limits.ensures.limits of_rows.floors in
    record {
      room = c.in_ok-kept.ensures.room;
      bindings = spans_are_bindings net rows kept.held kept.spans c.reveal.ensures.within c.is_within_limits.ensures.limits (ap (λ (f : List Bool). length f) c.in_ok-kept.ensures.held ∙ c.requires.flags) of_rows.spans;
      early_floors = early;
      first = floors_known net kept c.in_ok-first.first c.activities.result c.activities.ensures.count c.in_ok-first.ensures.held (c.in_ok-first.ensures.times ∙ c.floors.ensures) of_rows.floors.as_many early;
    }

pub returns-clause-rows : goal.returns-clause-rows
returns-clause-rows c = still_of_rows c.args.net.now c.args.rows.now (record { kept = c.in_ok-kept.kept; first = c.in_ok-first.first }) c.begin_again.new.self c.in_ok-kept.ensures.rows c.begin_again.ensures.keeps

use Rattle.std.proofs.Common.{refl, ◌∙◌, arith}
use Rattle.dm_network.proofs.EventRows.{row_below}
use Rattle.dm_check_plans.proofs.Headways.{none_turned, next_turned, all_turned}
use Rattle.dm_check_plans.proofs.turning.turn_direction.Goals as goal

pub loop-a-init : goal.loop-a-init
loop-a-init c = record {
  turned = none_turned c.args.net.now c.args.pair c.row_out_of-row.result.now c.args.value c.args.timetable.now.kept.held;
  timetable = c.requires.timetable;
  keeps = record { spans = refl; floors = refl; clock = refl };
  times = refl;
}

pub turn_one-requires-clause-is_activity : goal.turn_one-requires-clause-is_activity
turn_one-requires-clause-is_activity c =
    row_below c.args.net.now c.args.tail c.row_out_of-row.result.now c.row_out_of-row.ensures c.loop-a.a-index 0 (omega arith)

pub loop-a-preserved : goal.loop-a-preserved
loop-a-preserved c =
    let below = row_below c.args.net.now c.args.tail c.row_out_of-row.result.now c.row_out_of-row.ensures c.loop-a.a-index 0 (omega arith) in
    let had = c.loop-a.invariant in
    let flags = had.timetable.timetable.bindings.flags in
    let keeps = c.turn_one.ensures.keeps in
    record {
      turned = next_turned c.args.net.now c.args.pair c.row_out_of-row.result.now c.args.value c.loop-a.a-index c.args.timetable.now.kept.held c.loop-a.timetable.kept.held had.turned _ _ refl
          (omega (arith, below, flags)) c.turn_one.ensures.held;
      timetable = c.turn_one.ensures.timetable;
      keeps = record { spans = keeps.spans ∙ had.keeps.spans; floors = keeps.floors ∙ had.keeps.floors; clock = keeps.clock ∙ had.keeps.clock };
      times = c.turn_one.ensures.times ∙ had.times;
    }

pub returns-clause-held : goal.returns-clause-held
returns-clause-held c =
    all_turned c.args.net.now c.args.pair c.row_out_of-row.result.now c.args.value c.args.tail c.loop-a.a-index c.row_out_of-row.ensures (omega arith)
    c.args.timetable.now.kept.held c.loop-a.timetable.kept.held c.loop-a.invariant.turned

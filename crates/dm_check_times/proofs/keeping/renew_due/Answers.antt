use Rattle.std.proofs.Common.{arith, subst, ap, ℕ, ◌≡◌, length}
use Rattle.std.proofs.lemmas.List.{get_or_default}
use Rattle.dm_schedule.specs.declared.schedule.Scheduled.{Scheduled}
use Rattle.dm_check_times.specs.Inside.Agreeing.{MovesAmong}
use Rattle.dm_check_times.proofs.Agreeing.{among_none, among_more}
use Rattle.dm_check_times.proofs.keeping.renew_due.Goals as goal

pub loop-scheduled-init : goal.loop-scheduled-init
loop-scheduled-init c = record { timetable = c.requires.timetable; moves = among_none c.args.net.now c.args.rows.now c.args.due.now c.args.timetable.now }

pub loop-scheduled-preserved : goal.loop-scheduled-preserved
loop-scheduled-preserved c =
    let had = c.loop-scheduled.invariant in
    record {
      timetable = c.renew_if_moved.ensures.timetable;
      moves = among_more c.args.net.now c.args.rows.now c.args.due.now c.loop-scheduled.scheduled-index _ c.args.timetable.now c.loop-scheduled.timetable c.renew_if_moved.new.timetable
          (λ d. ap (λ (s : Scheduled). s.event) (get_or_default c.args.due.now c.loop-scheduled.scheduled-index d _ (omega arith))) had.moves c.renew_if_moved.ensures.moves;
    }

pub returns-clause-moves : goal.returns-clause-moves
returns-clause-moves c =
    let over : c.loop-scheduled.scheduled-index ≡ length c.args.due.now = omega arith in
    subst (λ (n : ℕ). MovesAmong c.args.net.now c.args.rows.now c.args.due.now n c.args.timetable.now c.loop-scheduled.timetable) over c.loop-scheduled.invariant.moves

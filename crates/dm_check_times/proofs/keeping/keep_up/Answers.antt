use Rattle.std.proofs.Common.{sym, ◌∙◌}
use Rattle.dm_check_times.proofs.Agreeing.{agrees_for, times_for}
use Rattle.dm_check_times.proofs.keeping.keep_up.Goals as goal

pub returns-clause-agrees : goal.returns-clause-agrees
returns-clause-agrees c = λ _ before is agrees.
    agrees_for c.args.net.now c.reveal.ensures.network.formed.is_paired before c.args.rows.now c.args.timetable.now c.renew_for.new.timetable agrees c.args.change.now
    (sym c.is_adopted.ensures ∙ c.if-is_adopted.false) is c.renew_for.ensures.renews

pub returns-clause-times : goal.returns-clause-times
returns-clause-times c = times_for c.args.net.now c.args.rows.now c.args.change.now c.args.timetable.now c.renew_for.new.timetable c.renew_for.ensures.renews

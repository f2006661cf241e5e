use Rattle.dm_check_times.proofs.OfTimetables.{followed_ok, followed_err}
use Rattle.dm_check_times.proofs.kept_timetable.KeptTimetable.settle.Goals as goal

pub returns-clause-settled : goal.returns-clause-settled
returns-clause-settled c =
    let net = c.args.net.now in
    let rows = c.args.rows.now in
    followed_ok c.follow.result net rows c.reveal.ensures.network c.reveal.ensures.within c.is_within_limits.ensures.limits c.args.self.now c.follow.new.self c.requires.timetable c.requires.agrees
    c.follow.ensures.room c.follow.ensures.held c.follow.ensures.keeps c.follow.ensures.none_stale c.follow.ensures.least

pub returns-clause-cyclic : goal.returns-clause-cyclic
returns-clause-cyclic c = followed_err c.follow.result c.args.net.now c.args.rows.now c.args.self.now c.requires.agrees c.follow.ensures.cyclic

use Rattle.std.proofs.Common.{ℕ, Bool, subst}
use Rattle.dm_rows.specs.Timetable.{span_of}
use Rattle.dm_check_times.specs.Timetables.{BindsActivity}
use Rattle.dm_check_times.proofs.kept_timetable.KeptTimetable.renew_activity.Goals as goal

pub returns-clause-renews : goal.returns-clause-renews
returns-clause-renews c =
    subst (λ (h : Bool). BindsActivity c.args.a h (span_of c.args.net.now c.args.rows.now c.args.a) c.args.self.now c.bind.new.self) c.is_active-held.ensures
    (subst (λ (s : ℕ). BindsActivity c.args.a c.is_active-held.result s c.args.self.now c.bind.new.self) c.span_of-span.ensures.value c.bind.ensures.binds)

use Rattle.std.proofs.Common.{Bool, ℕ, false, ◌≡◌, sym, subst, ◌∙◌, arith, length-set, slice_index}
use Rattle.dm_network.specs.declared.parts.Activity.{Activity}
use Rattle.dm_network.specs.Held.{is_held}
use Rattle.dm_check_times.specs.Inside.Renewing.{IsMetAt}
use Rattle.dm_marks.specs.Marked.{is_marked}
use Rattle.dm_check_times.specs.Timetables.{KeptTimetableValue, IsTimetableOf}
use Rattle.dm_check_times.proofs.OfTimetables.{value}
use Rattle.dm_check_times.proofs.Lowering.{follows_more}
use Rattle.dm_check_times.proofs.Renewing.{bindings_set, still_due, activity_renewed}
use Rattle.dm_check_times.proofs.kept_timetable.KeptTimetable.bind.Goals as goal

pub returns-clause-timetable : goal.returns-clause-timetable
returns-clause-timetable c =
    let net = c.args.net.now in
    let t : KeptTimetableValue = value c.self.inside.held.items c.self.inside.spans.items c.self.inside.floors.items c.self.inside.times.items c.self.inside.stale c.self.inside.due c.self.inside.clock in
    let was : IsTimetableOf net t = subst (IsTimetableOf net) (sym c.self.view_is) c.requires.timetable in
    let held : Bool = c.args.held in
    let span : ℕ = c.args.span in
    let spreads = c.make_stale_unless.ensures.spreads in
    let flags = was.room.held in
    let sizes = was.room.spans in
    let below = c.requires.is_activity in
    record {
      room = record {
        held = length-set t.held c.args.a held ∙ was.room.held;
        spans = length-set t.spans c.args.a span ∙ was.room.spans;
        floors = was.room.floors;
        times = was.room.times;
        stale = spreads.as_many ∙ was.room.stale;
        due = spreads.as_many_due ∙ was.room.due;
      };
      bindings = bindings_set net t.held t.spans c.args.a span held was.bindings c.requires.short;
      early = was.early;
      early_floors = was.early_floors;
      follows = activity_renewed net t.held t.spans t.floors t.times c.make_stale_unless.new.stale (follows_more net t.held t.spans t.floors t.times t.stale c.make_stale_unless.new.stale spreads.grows was.follows) c.args.a span held (omega arith) (omega arith)
          (subst (λ (x : Activity). is_marked c.make_stale_unless.new.stale x.head ≡ false → IsMetAt (is_held t.held c.args.a) (slice_index t.spans c.args.a) held span (slice_index t.times x.tail) (slice_index t.times x.head)) c.activity-activity.ensures
          (λ fresh. subst (λ (v : KeptTimetableValue). IsMetAt (is_held v.held c.args.a) (slice_index v.spans c.args.a) held span (slice_index v.times c.activity-activity.result.now.tail) (slice_index v.times c.activity-activity.result.now.head)) (sym c.self.view_is)
          (subst (λ (x : Bool). IsMetAt x (slice_index c.args.self.now.spans c.args.a) held span (slice_index c.args.self.now.times c.activity-activity.result.now.tail) (slice_index c.args.self.now.times c.activity-activity.result.now.head)) c.is_held-was_held.ensures
          (subst (λ (x : ℕ). IsMetAt c.is_held-was_held.result x held span (slice_index c.args.self.now.times c.activity-activity.result.now.tail) (slice_index c.args.self.now.times c.activity-activity.result.now.head)) c.span-was.ensures
          (subst (λ (x : ℕ). IsMetAt c.is_held-was_held.result c.span-was.result held span x (slice_index c.args.self.now.times c.activity-activity.result.now.head)) c.time-from.ensures
          (subst (λ (x : ℕ). IsMetAt c.is_held-was_held.result c.span-was.result held span c.time-from.result x) c.time-to.ensures
          (c.stays_along-stays.ensures (c.make_stale_unless.ensures.fresh fresh))))))));
      all_due = still_due t.stale c.make_stale_unless.new.stale t.due c.make_stale_unless.new.due spreads was.all_due;
    }

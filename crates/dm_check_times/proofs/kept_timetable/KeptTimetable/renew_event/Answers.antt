use Rattle.std.proofs.Common.{ℕ, ◌^◌, sym, subst, ◌∙◌, arith, length-set, slice_index}
use Rattle.dm_check_times.specs.Inside.Renewing.{IsKeptAt}
use Rattle.dm_check_times.specs.Timetables.{KeptTimetableValue, IsTimetableOf}
use Rattle.dm_check_times.proofs.OfTimetables.{value}
use Rattle.dm_check_times.proofs.Lowering.{follows_more}
use Rattle.dm_check_times.proofs.Renewing.{at_most_set, still_due, event_renewed}
use Rattle.dm_check_times.proofs.kept_timetable.KeptTimetable.renew_event.Goals as goal

pub returns-clause-timetable : goal.returns-clause-timetable
returns-clause-timetable c =
    let net = c.args.net.now in
    let t : KeptTimetableValue = value c.self.inside.held.items c.self.inside.spans.items c.self.inside.floors.items c.self.inside.times.items c.self.inside.stale c.self.inside.due c.self.inside.clock in
    let was : IsTimetableOf net t = subst (IsTimetableOf net) (sym c.self.view_is) c.requires.timetable in
    let floor : ℕ = c.floor_of-floor.result in
    let limit = c.floor_of-floor.ensures.limit in
    let spreads = c.make_stale_unless.ensures.spreads in
    let size = was.room.floors in
    record {
      room = record {
        held = was.room.held;
        spans = was.room.spans;
        floors = length-set t.floors c.args.event floor ∙ was.room.floors;
        times = was.room.times;
        stale = spreads.as_many ∙ was.room.stale;
        due = spreads.as_many_due ∙ was.room.due;
      };
      bindings = was.bindings;
      early = was.early;
      early_floors = at_most_set t.floors c.args.event floor (2 ^ 38) was.early_floors (omega arith);
      follows = event_renewed net t.held t.spans t.floors t.times c.make_stale_unless.new.stale (follows_more net t.held t.spans t.floors t.times t.stale c.make_stale_unless.new.stale spreads.grows was.follows) c.args.event floor (omega arith)
          (λ fresh. subst (λ (v : KeptTimetableValue). IsKeptAt (slice_index v.floors c.args.event) floor (slice_index v.times c.args.event)) (sym c.self.view_is)
          (subst (λ (x : ℕ). IsKeptAt x floor (slice_index c.args.self.now.times c.args.event)) c.floor-was.ensures
          (subst (λ (x : ℕ). IsKeptAt c.floor-was.result floor x) c.time-time.ensures (c.stays_at-stays.ensures (c.make_stale_unless.ensures.fresh fresh)))));
      all_due = still_due t.stale c.make_stale_unless.new.stale t.due c.make_stale_unless.new.due spreads was.all_due;
    }

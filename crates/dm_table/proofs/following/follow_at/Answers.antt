use Rattle.std.proofs.Common.{◌+◌, ◌<◌, length, get_or, drop, ◌∙◌, arith}
use Rattle.std.specs.Prelude.{Contains}
use Rattle.std.proofs.lemmas.List.{get_or_default}
use Rattle.dm_table.proofs.Followed.{one_looked, mark_looked, still_to_come, all_looked, all_marked, none_left}
use Rattle.dm_table.proofs.following.follow_at.Goals as goal

pub loop-place-preserved : goal.loop-place-preserved
loop-place-preserved c =
    let places = c.args.places.now in
    let k = c.loop-place.place-index in
    let place = get_or places k 0 in
    let below : k < length places = omega arith in
    let within : place < length c.args.of.times.now = c.requires.within k 0 below in
    record {
      so_far =
          one_looked (Contains (drop k places)) (Contains (drop (k + 1) places)) c.args.of.times.now c.args.into.now c.loop-place.into c.loop-place.listed.items k
          c.loop-place.invariant.so_far place (c.requires.within k 0 below) (still_to_come places k place below (get_or_default places k 0 place below))
          c.follow_one.new.into c.follow_one.new.listed.items c.follow_one.ensures.times c.follow_one.ensures.listed;
      marks =
          mark_looked (Contains (drop k places)) (Contains (drop (k + 1) places)) c.args.of.rows.now.cancelled c.args.cancelled.now c.loop-place.cancelled
          c.loop-place.listed.items c.loop-place.invariant.marks place (omega (arith, within, c.requires.as_many_rows))
          (still_to_come places k place below (get_or_default places k 0 place below))
          c.follow_one.new.cancelled c.follow_one.new.listed.items c.follow_one.ensures.flags c.follow_one.ensures.marked;
      room = c.follow_one.ensures.room ∙ c.loop-place.invariant.room;
    }

pub returns-clause-up : goal.returns-clause-up
returns-clause-up c =
    let places = c.args.places.now in
    all_looked (Contains (drop c.loop-place.place-index places)) c.args.of.times.now c.args.into.now c.loop-place.into c.loop-place.listed.items
    c.loop-place.place-index c.loop-place.invariant.so_far (omega (arith, c.requires.few)) (none_left places c.loop-place.place-index (omega arith))

pub returns-clause-marked : goal.returns-clause-marked
returns-clause-marked c =
    let places = c.args.places.now in
    all_marked (Contains (drop c.loop-place.place-index places)) c.args.of.rows.now.cancelled c.args.cancelled.now c.loop-place.cancelled
    c.loop-place.listed.items c.loop-place.invariant.marks (none_left places c.loop-place.place-index (omega arith))

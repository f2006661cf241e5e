use Rattle.std.proofs.Common.{◌+◌, ◌≤◌, ◌∙◌, arith}
use Rattle.dm_table.proofs.Followed.{one_looked, mark_looked, place_is_next, all_looked, all_marked}
use Rattle.dm_table.proofs.following.follow_everywhere.Goals as goal

pub loop-place-preserved : goal.loop-place-preserved
loop-place-preserved c =
    let place = c.loop-place.place in
    record {
      so_far =
          one_looked (λ i. place ≤ i) (λ i. place + 1 ≤ i) c.args.of.times.now c.args.into.now c.loop-place.into c.loop-place.listed.items place
          c.loop-place.invariant.so_far place (omega arith) (place_is_next place)
          c.follow_one.new.into c.follow_one.new.listed.items c.follow_one.ensures.times c.follow_one.ensures.listed;
      marks =
          mark_looked (λ i. place ≤ i) (λ i. place + 1 ≤ i) c.args.of.rows.now.cancelled c.args.cancelled.now c.loop-place.cancelled
          c.loop-place.listed.items c.loop-place.invariant.marks place (omega (arith, c.requires.as_many_rows)) (place_is_next place)
          c.follow_one.new.cancelled c.follow_one.new.listed.items c.follow_one.ensures.flags c.follow_one.ensures.marked;
      room = c.follow_one.ensures.room ∙ c.loop-place.invariant.room;
    }

pub returns-clause-up : goal.returns-clause-up
returns-clause-up c =
    all_looked (λ i. c.loop-place.place ≤ i) c.args.of.times.now c.args.into.now c.loop-place.into c.loop-place.listed.items
    c.loop-place.place c.loop-place.invariant.so_far (omega arith) (λ i below is_due. omega arith)

pub returns-clause-marked : goal.returns-clause-marked
returns-clause-marked c =
    all_marked (λ i. c.loop-place.place ≤ i) c.args.of.rows.now.cancelled c.args.cancelled.now c.loop-place.cancelled c.loop-place.listed.items
    c.loop-place.invariant.marks (λ i below is_due. omega (arith, c.requires.as_many_rows))

use Rattle.std.proofs.Common.{◌≡◌, ℕ, List, arith, sym, ap, ◌∙◌, subst, slice_index, drop}
use Rattle.dm_graph.specs.Arcs.{Chain}
use Rattle.dm_network.specs.Net.{activity_at}
use Rattle.dm_network.specs.Held.{arcs_of, is_held}
use Rattle.dm_network.specs.declared.parts.Activity.{Activity}
use Rattle.dm_order.specs.Inside.Reaching.{is_reached}
use Rattle.dm_order.proofs.Tracing.{cause, traced}
use Rattle.dm_order.proofs.way.Way.close.Goals as goal

pub activity-requires-in-loop-event : goal.activity-requires-in-loop-event
activity-requires-in-loop-event c =
    let low_is : slice_index c.args.ranks.now c.activity.result.now.head ≡ slice_index c.args.ranks.now (activity_at c.args.net.now c.args.first).head =
    ap (λ (x : Activity). slice_index c.args.ranks.now x.head) c.activity.ensures in
    (cause c.args.net.now c.args.held.now c.args.order.now c.args.ranks.now c.requires.ranked c.reveal.ensures.network.formed.ends_are_known
    (slice_index c.args.ranks.now (activity_at c.args.net.now c.args.first).head) (slice_index c.args.ranks.now (activity_at c.args.net.now c.args.first).tail)
    c.args.causes.now c.requires.reached c.loop-event.event c.in-Some.a c.loop-event.invariant.is_event (omega arith) c.loop-event.invariant.not_behind c.in-Some.is).is_activity

pub loop-event-preserved : goal.loop-event-preserved
loop-event-preserved c =
    let known = c.reveal.ensures.network.formed.ends_are_known in
    let low_is : slice_index c.args.ranks.now c.activity.result.now.head ≡ slice_index c.args.ranks.now (activity_at c.args.net.now c.args.first).head =
    ap (λ (x : Activity). slice_index c.args.ranks.now x.head) c.activity.ensures in
    let why =
    cause c.args.net.now c.args.held.now c.args.order.now c.args.ranks.now c.requires.ranked c.reveal.ensures.network.formed.ends_are_known
    (slice_index c.args.ranks.now (activity_at c.args.net.now c.args.first).head) (slice_index c.args.ranks.now (activity_at c.args.net.now c.args.first).tail)
    c.args.causes.now c.requires.reached c.loop-event.event c.in-Some.a c.loop-event.invariant.is_event (omega arith) c.loop-event.invariant.not_behind c.in-Some.is in
    let tail_is : c.activity-in-loop-event.result.now.tail ≡ (activity_at c.args.net.now c.in-Some.a).tail = ap (λ (x : Activity). x.tail) c.activity-in-loop-event.ensures in
    let rank_is : slice_index c.args.ranks.now c.activity-in-loop-event.result.now.tail ≡ slice_index c.args.ranks.now (activity_at c.args.net.now c.in-Some.a).tail =
    ap (slice_index c.args.ranks.now) tail_is in
    let before = why.before in
    let not_before = why.not_before in
    let tail_in = known.tails c.in-Some.a why.is_activity in
    let up = c.loop-event.invariant.not_behind in
    let room = c.loop-event.invariant.room in
    let within = c.loop-event.invariant.within in
    let start = c.put.ensures.start in
    let count = c.put.ensures.as_many in
    record {
      is_event = omega arith;
      not_before = omega arith;
      not_behind = omega arith;
      reached = ap (λ (e : ℕ). is_reached c.args.causes.now (slice_index c.args.ranks.now e)) tail_is ∙ why.reached;
      chain =
          subst (λ (e : ℕ). Chain (arcs_of c.args.net.now (is_held c.args.held.now)) e (drop c.put.new.self.start c.put.new.self.arcs.items) (activity_at c.args.net.now c.args.first).tail) (sym tail_is)
          (subst (λ (way : List ℕ). Chain (arcs_of c.args.net.now (is_held c.args.held.now)) (activity_at c.args.net.now c.in-Some.a).tail way (activity_at c.args.net.now c.args.first).tail) (sym c.put.ensures.arcs)
          (traced c.args.net.now c.args.held.now c.args.order.now c.args.ranks.now c.requires.ranked known
          (slice_index c.args.ranks.now (activity_at c.args.net.now c.args.first).head) (slice_index c.args.ranks.now (activity_at c.args.net.now c.args.first).tail)
          c.args.causes.now c.requires.reached c.loop-event.event c.in-Some.a c.loop-event.invariant.is_event (omega arith) c.loop-event.invariant.not_behind c.in-Some.is
          (activity_at c.args.net.now c.args.first).tail (drop c.loop-event.self.start c.loop-event.self.arcs.items) c.loop-event.invariant.chain));
      room = omega arith;
      within = omega arith;
      as_many = count ∙ c.loop-event.invariant.as_many;
    }

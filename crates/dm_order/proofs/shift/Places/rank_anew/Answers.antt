use Rattle.std.proofs.Common.{◌≡◌, ◌+◌, ◌<◌, ℕ, Bool, List, length, length-set, arith, ap, ◌∙◌, slice_index, slice_index_or}
use Rattle.std.specs.Prelude.{if◌then◌else◌}
use Rattle.std.proofs.lemmas.List.{get_or_default}
use Rattle.dm_order.specs.Inside.Shifting.{reached_from}
use Rattle.dm_order.proofs.Counting.{all_counted, failing_next, passing_next, passing_rises}
use Rattle.dm_order.proofs.Ranking.{ranked_more, copied_more, place_taken}
use Rattle.dm_order.proofs.shift.Places.rank_anew.Goals as goal

pub overflow_add-next : goal.overflow_add-next
overflow_add-next c =
    let all = all_counted (reached_from c.args.causes.now c.args.low) c.args.count in
    let others = c.requires.others in
    let within = c.requires.within in
    let few = c.requires.few in
    omega arith

pub take-place-requires-clause-other : goal.take-place-requires-clause-other
take-place-requires-clause-other c =
    let all = all_counted (reached_from c.args.causes.now c.args.low) c.loop-i.i in
    let is = c.loop-i.invariant.other in
    let within = c.requires.within in
    let few = c.requires.few in
    omega arith

pub take-place-requires-clause-reached : goal.take-place-requires-clause-reached
take-place-requires-clause-reached c =
    let all = all_counted (reached_from c.args.causes.now c.args.low) c.args.count in
    let rise = passing_rises (reached_from c.args.causes.now c.args.low) c.loop-i.i c.args.count (omega arith) in
    let is = c.loop-i.invariant.reached in
    let others = c.requires.others in
    let within = c.requires.within in
    let few = c.requires.few in
    omega arith

pub loop-i-preserved : goal.loop-i-preserved
loop-i-preserved c =
    let spare_count = c.loop-i.invariant.spare in
    let room : c.loop-i.i < length c.loop-i.self.spare.items =
    let a = c.requires.spare in let b = c.requires.within in omega arith in
    let in_order : c.args.low + c.loop-i.i < length c.args.self.now.order.items = let b = c.requires.within in omega arith in
    let same_order = c.loop-i.invariant.order in
    let event_is : c.index-event.result.now ≡ slice_index c.args.self.now.order.items (c.args.low + c.loop-i.i) =
    c.index-event.ensures
    ∙ ap (λ (xs : List ℕ). slice_index_or xs (c.args.low + c.loop-i.i) c.index-event.result.now) same_order
    ∙ get_or_default c.args.self.now.order.items (c.args.low + c.loop-i.i) c.index-event.result.now 0 in_order in
    let other_next = failing_next (reached_from c.args.causes.now c.args.low) c.loop-i.i in
    let reached_next = passing_next (reached_from c.args.causes.now c.args.low) c.loop-i.i in
    let other_is : c.take-place.new.self.other ≡ c.loop-i.next.other + (if reached_from c.args.causes.now c.args.low c.loop-i.i then 0 else 1) =
    c.take-place.ensures.other ∙ ap (λ (b : Bool). c.loop-i.next.other + (if b then 0 else 1)) c.is_some.ensures in
    let reached_is : c.take-place.new.self.reached ≡ c.loop-i.next.reached + (if reached_from c.args.causes.now c.args.low c.loop-i.i then 1 else 0) =
    c.take-place.ensures.reached ∙ ap (λ (b : Bool). c.loop-i.next.reached + (if b then 1 else 0)) c.is_some.ensures in
    let other_was = c.loop-i.invariant.other in
    let reached_was = c.loop-i.invariant.reached in
    record {
      other = omega arith;
      reached = omega arith;
      ranks =
          ranked_more (length c.args.self.now.order.items) c.args.self.now.order.items c.args.self.now.ranks.items c.requires.ranked
          (reached_from c.args.causes.now c.args.low) c.args.low c.args.count c.loop-i.i c.requires.within (omega arith)
          c.loop-i.self.ranks.items c.index-event.result.now c.take-place.result c.loop-i.invariant.ranks event_is
          (place_taken (length c.args.self.now.order.items) c.args.self.now.order.items c.args.self.now.ranks.items c.requires.ranked
          (reached_from c.args.causes.now c.args.low) c.args.low c.args.count c.loop-i.i c.requires.within (omega arith)
          c.take-place.result c.loop-i.next.other c.loop-i.next.reached c.args.others c.is_some.result c.is_some.ensures
          c.requires.others c.loop-i.invariant.other c.loop-i.invariant.reached c.take-place.ensures.place);
      copied =
          copied_more (length c.args.self.now.order.items) c.args.self.now.order.items c.args.self.now.ranks.items c.requires.ranked
          (reached_from c.args.causes.now c.args.low) c.args.low c.args.count c.loop-i.i c.requires.within (omega arith)
          c.loop-i.self.spare.items c.index-event.result.now c.loop-i.invariant.copied room event_is;
      order = c.loop-i.invariant.order;
      spare = length-set c.loop-i.self.spare.items c.loop-i.i c.index-event.result.now ∙ c.loop-i.invariant.spare;
    }

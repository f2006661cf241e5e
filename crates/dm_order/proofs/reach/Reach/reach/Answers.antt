use Rattle.std.proofs.Common.{◌≡◌, ◌+◌, None, sym, subst, ◌∙◌, arith, ap, slice_index_or, length, ◌<◌}
use Rattle.std.specs.Prelude.{is_some}
use Rattle.std.proofs.lemmas.List.{get_or_default}
use Rattle.dm_order.specs.declared.reach.Reach.{Reach}
use Rattle.dm_order.specs.Inside.Reaching.{HasReached, is_reached}
use Rattle.dm_order.proofs.Reached.{passes_by, goes_on}
use Rattle.dm_order.proofs.reach.Reach.reach.Goals as goal
use Rattle.dm_order.proofs.reach.Reach.reach.Goals.{then-is_some, else-is_some}

pub loop-place-preserved : goal.loop-place-preserved
loop-place-preserved c =
    let here : c.loop-place.place < length c.loop-place.self.causes.items = let n = c.loop-place.invariant.as_many in omega arith in
    let item : slice_index_or c.loop-place.self.causes.items c.loop-place.place None ≡ c.index.result.now =
    get_or_default c.loop-place.self.causes.items c.loop-place.place None c.index.result.now here ∙ sym c.index.ensures in
    let was : is_reached c.loop-place.self.causes.items c.loop-place.place ≡ c.is_some.result = ap is_some item ∙ sym c.is_some.ensures in
    elim c.if-is_some.branch [
      | then-is_some w ↦
          subst (λ (r : Reach). HasReached c.args.net.now c.args.held.now c.args.ranked.now.ranks.now c.args.low c.args.high (c.loop-place.place + 1) r.causes.items) (sym w.self-is)
          (goes_on c.args.net.now c.args.held.now c.args.ranked.now.order.now c.args.ranked.now.ranks.now c.requires.ranked c.reveal.ensures.network.formed.ends_are_known
          c.args.low c.args.high c.loop-place.place c.loop-place.self.causes.items c.loop-place.invariant
          (omega arith) (omega arith) c.requires.within w.follow_all.new.self.causes.items w.follow_all.ensures.causes (was ∙ w.if-is_some.true))
      | else-is_some w ↦
          subst (λ (r : Reach). HasReached c.args.net.now c.args.held.now c.args.ranked.now.ranks.now c.args.low c.args.high (c.loop-place.place + 1) r.causes.items) (sym w.self-is)
          (passes_by c.args.net.now c.args.held.now c.args.ranked.now.order.now c.args.ranked.now.ranks.now c.requires.ranked c.reveal.ensures.network.formed.ends_are_known
          c.args.low c.args.high c.loop-place.place c.loop-place.self.causes.items c.loop-place.invariant
          (omega arith) (omega arith) c.requires.within (was ∙ w.if-is_some.false))
    ]

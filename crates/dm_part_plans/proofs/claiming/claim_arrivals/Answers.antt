use Rattle.std.proofs.Common.{◌≡◌, ◌∷◌, [], List, length, length-append, ◌+◌, sym, ap, subst, ◌∙◌, arith}
use Rattle.dm_base.specs.declared.ids.EventId.{EventId}
use Rattle.dm_part_plans.specs.Inside.Claims.{AreNewArrivals, IsNewArrival}
use Rattle.dm_part_plans.proofs.Claimed.{one_more_arrival, arrivals_kept_on}
use Rattle.dm_part_plans.proofs.claiming.claim_arrivals.Goals as goal

pub loop-arrival-preserved : goal.loop-arrival-preserved
loop-arrival-preserved c =
    let net = c.args.net.now in
    let ids = c.loop-arrival.ids.items in
    let id = c.in-Some.id in
    let new = subst (λ (xs : List EventId). IsNewArrival net c.loop-arrival.flags c.claim_arrival.new.flags xs id) c.deref.ensures.value c.in-Some.ensures.new in
    let longer : length c.push.new.self.items ≡ length ids + 1 = ap (λ (xs : List EventId). length xs) c.in_ok-push.ensures.items ∙ length-append ids (id ∷ []) in
    let room = c.if-len-ge-MOST.false in
    let size = c.len.ensures in
    record {
      new = subst (AreNewArrivals net c.args.flags.now c.claim_arrival.new.flags) (sym c.in_ok-push.ensures.items)
          (one_more_arrival net c.args.flags.now c.loop-arrival.flags c.claim_arrival.new.flags ids id c.loop-arrival.invariant.new new c.claim_arrival.ensures.kept);
      kept = arrivals_kept_on net c.args.flags.now c.loop-arrival.flags c.claim_arrival.new.flags c.loop-arrival.invariant.kept c.claim_arrival.ensures.kept;
      few = omega (arith, longer, room, size);
    }

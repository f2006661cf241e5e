use Rattle.std.proofs.Common.{◌≡◌, ◌∷◌, [], List, length, length-append, ◌+◌, sym, ap, subst, ◌∙◌, arith}
use Rattle.dm_base.specs.declared.ids.ActId.{ActId}
use Rattle.dm_part_plans.specs.Inside.Claims.{AreNewChanges, IsNewChange}
use Rattle.dm_part_plans.proofs.Claimed.{one_more_change, changes_kept_on}
use Rattle.dm_part_plans.proofs.claiming.claim_changes.Goals as goal

pub loop-connection-preserved : goal.loop-connection-preserved
loop-connection-preserved c =
    let net = c.args.net.now in
    let ids = c.loop-connection.ids.items in
    let id = c.in-Some.id in
    let new = subst (λ (xs : List ActId). IsNewChange net c.loop-connection.flags c.claim_change.new.flags xs id) c.deref.ensures.value c.in-Some.ensures.new in
    let longer : length c.push.new.self.items ≡ length ids + 1 = ap (λ (xs : List ActId). length xs) c.in_ok-push.ensures.items ∙ length-append ids (id ∷ []) in
    let room = c.if-len-ge-MOST.false in
    let size = c.len.ensures in
    record {
      new = subst (AreNewChanges net c.args.flags.now c.claim_change.new.flags) (sym c.in_ok-push.ensures.items)
          (one_more_change net c.args.flags.now c.loop-connection.flags c.claim_change.new.flags ids id c.loop-connection.invariant.new new c.claim_change.ensures.kept);
      kept = changes_kept_on net c.args.flags.now c.loop-connection.flags c.claim_change.new.flags c.loop-connection.invariant.kept c.claim_change.ensures.kept;
      few = omega (arith, longer, room, size);
    }

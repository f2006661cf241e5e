use Rattle.std.proofs.Common.{List, [], ◌∷◌, length, length-append, ap, ◌∙◌, arith}
use Rattle.dm_deques.specs.Sharing.{new_tally}
use Rattle.dm_part_workers.specs.Inside.Handing.{Deque}
use Rattle.dm_part_workers.proofs.Putting.{one_lent, one_tally}
use Rattle.dm_part_workers.proofs.handing.lend_all.Goals as goal

pub loop-worker-preserved : goal.loop-worker-preserved
loop-worker-preserved c =
    let inv = c.loop-worker.invariant in
    let longer = ap (λ (ts : List Deque). length ts) c.in_ok-push.ensures.items in
    let one = length-append c.loop-worker.tallies.items (c.tally.result ∷ []) in
    let before = inv.many in
    record {
      owner = one_lent _ _ _ _ inv.owner c.tally.ensures.owner;
      tallies = one_tally _ c.loop-worker.tallies.items _ c.tally.result inv.tallies
          (c.tally.ensures.tally ∙ ap new_tally inv.owner.deque) c.in_ok-push.ensures.items;
      many = omega (arith, longer, one, before);
    }

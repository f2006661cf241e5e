use Rattle.std.specs.Prelude.{◌≡◌, All, length}
use Rattle.dm_deques.specs.Sharing.{new_tally}
use Rattle.dm_part_workers.specs.Inside.Handing.{HasLent}
use Rattle.dm_part_workers.proofs.handing.lend_all.Given as goal

abbrev pub invariant-loop-worker : goal.invariant-loop-worker
invariant-loop-worker l =
    record {
      owner : HasLent l._worker l.initial.owner l.owner;
      tallies : All (λ t. t ≡ new_tally l.initial.owner.deque) l.tallies.items;
      many : length l.tallies.items ≡ l._worker;
    }

use Rattle.std.proofs.Common.{refl}
use Rattle.dm_traverse.proofs.Exits.{past_leaf, past_better, past_split}
use Rattle.dm_traverse.proofs.Kept.{settled_kept, branch_kept}
use Rattle.dm_traverse.proofs.searching.Walker.place.Goals as goal

pub returns-in_ok-leave-in-Settled : goal.returns-in_ok-leave-in-Settled
returns-in_ok-leave-in-Settled c =
    record {
      advanced = past_leaf _ c.reveal.ensures.network _ _ _ _ _ _ _ _ _ _ _ _ _ refl c.requires.leaf (rw c.in-Settled.is at c.requires.found)
          c.requires.ceiling refl c.in_ok-leave-in-Settled.ensures.nodes
          c.in_ok-leave-in-Settled.ensures.path c.in_ok-leave-in-Settled.ensures.due c.requires.search c.requires.best;
      kept =
          let found = rw c.in-Settled.is at c.requires.found in
          settled_kept _ _ _ _ _ _ _ _ _ c.requires.search c.requires.leaf _ found.is_leaf (rw c.in-Settled.is at c.requires.stays)
          c.in_ok-leave-in-Settled.ensures.nodes c.in_ok-leave-in-Settled.ensures.due;
    }

pub returns-in_ok-leave-in-Better : goal.returns-in_ok-leave-in-Better
returns-in_ok-leave-in-Better c =
    record {
      advanced = past_better _ c.reveal.ensures.network _ _ _ _ _ _ _ _ _ _ _ _ _ refl c.requires.leaf (rw c.in-Better.is at c.requires.found)
          c.requires.ceiling refl c.in_ok-leave-in-Better.ensures.nodes
          c.in_ok-leave-in-Better.ensures.path c.in_ok-leave-in-Better.ensures.due c.requires.search;
      kept = settled_kept _ _ _ _ _ _ _ _ _ c.requires.search c.requires.leaf _ refl
          (λ stays. absurd ((rw c.in-Better.is at c.requires.stays) stays))
          c.in_ok-leave-in-Better.ensures.nodes c.in_ok-leave-in-Better.ensures.due;
    }

pub returns-in_ok-split-in-Split : goal.returns-in_ok-split-in-Split
returns-in_ok-split-in-Split c =
    record {
      advanced = past_split _ c.reveal.ensures.network _ _ _ _ _ _ _ _ _ _ _ _ _ refl c.requires.leaf (rw c.in-Split.is at c.requires.found)
          c.requires.ceiling refl c.in_ok-split-in-Split.ensures.nodes
          c.in_ok-split-in-Split.ensures.path c.in_ok-split-in-Split.ensures.due c.requires.search c.requires.best;
      kept = branch_kept _ _ _ _ _ _ _ _ _ c.requires.search c.requires.leaf _ (rw c.in-Split.is at c.requires.stays)
          c.in_ok-split-in-Split.ensures.nodes c.in_ok-split-in-Split.ensures.due;
    }

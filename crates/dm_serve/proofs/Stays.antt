-- What was shown stays, at whatever moment of a life.
use Rattle.std.proofs.Common.{inr, ℕ, ◌≤◌}
use Rattle.dm_store.specs.declared.store.Store.{Ghosts as StoreFacts}
use Rattle.dm_store.specs.Calls.{AreFronts, Image, LeavesOnly}

module _ {S : Type 0} (facts : StoreFacts S) where
  -- the law of a store
  abbrev pub ShowsOn : Type 0
  ShowsOn = (store : S) (t : ℕ) (image : Image) → facts.tells store → facts.left_since store t image → AreFronts image.shown (facts.shown store)

  pub shown_stays : ShowsOn → (old new : S) → facts.moment old ≤ facts.moment new → facts.tells new → LeavesOnly facts.moment facts.left_since old new (λ image. AreFronts image.shown (facts.shown new))
  shown_stays on old new later told = record {
    later = later;
    each = λ image left. on new (facts.moment old) image told left;
    before = λ t image le left. inr (on new t image told left);
  }

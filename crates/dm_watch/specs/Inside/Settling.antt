-- What settling a round does: its items come into the journal, and are shown then.
use Rattle.std.specs.Prelude.{ℕ, ◌≡◌, ◌<◌, List, [], ◌∷◌, ◌++◌, length, map, slice_get, All, Some, Result, Vec, IfOk, OnOk}
use Rattle.std.specs.declared.alloc.Global.{Global}
use Rattle.dm_cert.specs.Answers.{Setting}
use Rattle.dm_store.specs.declared.store.Store.{Ghosts as StoreFacts}
use Rattle.dm_store.specs.Calls.{LeavesOnly}
use Rattle.dm_store.specs.declared.journal.Journal.{Journal}
use Rattle.dm_tape.specs.Laws.{IsKeptPart}
use Rattle.dm_tape.specs.Rounds.{round_text}
use Rattle.dm_book.specs.Books.{Book, IsTrueBook, IsFrontBook, IsSafe}
use Rattle.dm_tail.specs.declared.watched.Watched.{Watched}
use Rattle.dm_watch.specs.Settled.{old_items, new_items, all_items, AreSettled, HaveSettled}
use Rattle.dm_watch.specs.declared.stops.RoundStop.{RoundStop}

-- some feed has items that were not yet shown
pub record HasNew {T : Type 0} (feeds : List (Watched T)) : Type 0 where
  pub place : ℕ
  pub watched : Watched T
  pub stands : slice_get feeds place ≡ Some watched
  pub new : watched.shown < length watched.log.items

-- The logs of a true book are settled; those of another that it grew to are the logs of the feeds, of which some items are new.
pub record MaySettle {S T : Type 0} (facts : StoreFacts S)
    (s : Setting) (contents : List (List ℕ)) (before after : Book) (feeds : List (Watched T)) (journal : Journal S) : Type 0 where
  pub settled : AreSettled facts s contents before.logs journal
  pub true_before : IsTrueBook s before
  pub true_after : IsTrueBook s after
  pub grows : IsFrontBook before after
  pub old : before.logs ≡ map old_items feeds
  pub all : after.logs ≡ map all_items feeds
  pub kept : All IsKeptPart (map new_items feeds)

-- the blocks with the round of the new items behind them
abbrev pub with_new : {T : Type 0} → List (List ℕ) → List (Watched T) → List (List ℕ)
with_new contents feeds = contents ++ round_text (map new_items feeds) ∷ []

-- A crash at any moment meanwhile leaves a true book between the two. At Ok the journal has the round besides, and it is shown.
pub record Settles {S T : Type 0} (facts : StoreFacts S)
    (s : Setting) (contents : List (List ℕ)) (before after : Book) (feeds : List (Watched T)) (old new : Journal S)
    (result : Result (Vec (Watched T) Global) RoundStop) : Type 0 where
  pub leaves : LeavesOnly facts.moment facts.left_since old.store new.store (IsSafe s before after)
  pub done : IfOk result (λ now. AreSettled facts s (with_new contents feeds) after.logs new)

-- A crash at any moment meanwhile leaves a true book between the two. At Ok the journal has the later one, and it is shown.
pub record SettlesSome {S T E : Type 0} (facts : StoreFacts S)
    (s : Setting) (before after : Book) (old new : Journal S) (result : Result T E) : Type 0 where
  pub leaves : LeavesOnly facts.moment facts.left_since old.store new.store (IsSafe s before after)
  pub done : OnOk result (HaveSettled facts s after.logs new)

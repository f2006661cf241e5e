-- A start over what an earlier life wrote and had not synced yet.
use Rattle.std.specs.Prelude.{ℕ, List, map, Option}
use Rattle.dm_cert.specs.Answers.{Setting}
use Rattle.dm_store.specs.declared.store.Store.{Ghosts as StoreFacts}
use Rattle.dm_store.specs.Blocks.{Stands}
use Rattle.dm_store.specs.Calls.{AreFronts, Image, LeavesOnly}
use Rattle.dm_store.specs.Journals.{HasCrashEnd}
use Rattle.dm_book.specs.Books.{Book, IsFrontBook, IsSafe, reply_text}
use Rattle.dm_restore.specs.Restoring.{IsRestored}
use Rattle.dm_serve.specs.Lives.{LivesOn}

-- What a read returns holds this true book, with an end that a crash may leave, and what was shown is a front of its logs. Not all of it
-- need be on the disk: what a crash may leave now is safe between an earlier book and this one.
pub record IsReadSafe {S : Type 0} (facts : StoreFacts S)
    (s : Setting) (feeds : ℕ) (store : S) (contents : List (List ℕ)) (low book : Book) : Type 0 where
  pub told : facts.tells store
  pub stands : Stands contents (facts.seen store)
  pub crash_end : HasCrashEnd contents (facts.seen store)
  pub restored : IsRestored s feeds contents book
  pub shown_fronts : AreFronts (facts.shown store) (map reply_text book.logs)
  pub safe : (image : Image) → facts.may_leave store image → IsSafe s low book image

-- A store that was synced, and then a life that goes on from the book: whatever a crash leaves since the sync began is safe between the
-- earlier book and the last one of that life.
abbrev pub StartsSafely : {S : Type 0} → StoreFacts S → Type 0
StartsSafely {S} facts =
    (s : Setting) (low book : Book) (sources : List (Option (List ℕ))) (old synced new : S) → IsFrontBook low book
    → LeavesOnly facts.moment facts.left_since old synced (IsSafe s low book)
    → (life : LivesOn facts s book sources synced new)
    → LeavesOnly facts.moment facts.left_since old new (IsSafe s low life.last)

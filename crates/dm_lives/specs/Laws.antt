-- What one life of a server leaves to the next.
use Rattle.std.specs.Prelude.{ℕ, ◌≡◌, ◌⊎◌, ◌≤◌, List, [], length, codes, All, Option}
use Rattle.std.proofs.Math.ListN.{replicate}
use Rattle.dm_base.specs.declared.limits.TheConstants.{FEEDS, PENALTY}
use Rattle.dm_cert.specs.declared.limits.TheConstants.{PLANS}
use Rattle.dm_cert.specs.Answers.{Setting}
use Rattle.dm_store.specs.declared.store.Store.{Ghosts as StoreFacts}
use Rattle.dm_store.specs.Blocks.{Stands}
use Rattle.dm_store.specs.Calls.{AreFronts, Image, LeavesJournal}
use Rattle.dm_store.specs.declared.journal.Journal.{Journal}
use Rattle.dm_book.specs.Books.{Book, IsBookIn, IsFrontBook, IsSafe, IsTrueBook}
use Rattle.dm_book.specs.Lives.{Crashed, IsLife}
use Rattle.dm_tail.specs.declared.tail.Tail.{Tail}
use Rattle.dm_store_text.specs.Lines.{store_line}
use Rattle.dm_store_text.specs.declared.status.Status.TheVariants.{Refused}
use Rattle.dm_serve.specs.Ends.{IsDueOver, IsFeedRefusal}
use Rattle.dm_serve.specs.Lives.{IsTakenUp, LivesOn}

-- The store holds what a crash left, all of it on the disk. A reply file may show less than it did: what was not synced is lost.
pub record Holds {S : Type 0} (facts : StoreFacts S) (image : Image) (store : S) : Type 0 where
  pub told : facts.tells store
  pub journal : facts.seen store ≡ image.journal
  pub replies : AreFronts (facts.shown store) image.shown
  pub durable : LeavesJournal (facts.seen store) (facts.may_leave store)

-- It was taken up, with a book to which the first has grown.
pub record GoesOnAgain {S : Type 0} (facts : StoreFacts S) (s : Setting) (first : Book) (store : S) : Type 0 where
  pub contents : List (List ℕ)
  pub book : Book
  pub taken : IsTakenUp facts s (length first.logs) store contents book
  pub grows : IsFrontBook first book

-- Whatever a crash left of a life that began with some book, a store that holds that is taken up.
abbrev pub IsTakenUpAgain : {S : Type 0} → StoreFacts S → Type 0
IsTakenUpAgain {S} facts =
    (s : Setting) (first last : Book) (image : Image) (store : S) → IsSafe s first last image → Holds facts image store
    → GoesOnAgain facts s first store

-- What a crash leaves of a life now, with what crashes at earlier moments of it might have left, is that of a life that was crashed: what
-- was shown earlier is still shown. A later life may begin with the book that is found there.
abbrev pub IsCrashedLife : {S : Type 0} → StoreFacts S
    → Type 0
IsCrashedLife {S} facts =
    (s : Setting) (first : Book) (sources : List (Option (List ℕ))) (old new : S) → LivesOn facts s first sources old new
    → facts.tells new → (crashed : Crashed) → All (facts.left_since new (facts.moment old)) crashed.earlier → facts.may_leave new crashed.image
    → (found : Book) → length found.logs ≡ length first.logs
    → ((contents : List (List ℕ)) → Stands contents crashed.image.journal → IsBookIn s contents found) → IsTrueBook s found
    → IsLife s first crashed found

-- ---- a store in which nothing was served yet

-- its journal has no byte, all of it on the disk, and no reply file shows any
pub record IsNew {S : Type 0} (facts : StoreFacts S) (feeds : ℕ) (store : S) : Type 0 where
  pub told : facts.tells store
  pub journal : facts.seen store ≡ []
  pub replies : facts.shown store ≡ replicate feeds []
  pub durable : LeavesJournal (facts.seen store) (facts.may_leave store)

-- the book of so many feeds in which there is nothing
abbrev pub empty_book : ℕ → Book
empty_book feeds = record { history = []; logs = replicate feeds [] }

-- Such a store is taken up, with no block and that book.
abbrev pub IsNewTakenUp : {S : Type 0} → StoreFacts S → Type 0
IsNewTakenUp {S} facts = (s : Setting) (feeds : ℕ) (store : S) → IsNew facts feeds store
    → IsTakenUp facts s feeds store [] (empty_book feeds)

-- ---- what is refused

-- Where a store is taken up, a text that is due at the status Refused says that there is no room, or names a feed that has another line
-- than was answered. It is asked of no board.
abbrev pub IsRefusedSo : {S T : Type 0} → StoreFacts S → (T → Option (List ℕ)) → (T → ℕ) → Type 0
IsRefusedSo {S} {T} facts given faults =
    (s : Setting) (names : List (List ℕ)) (store : List ℕ) (feeds : List (Option T)) (tails : List (Tail T))
    (old new : Journal S) (contents : List (List ℕ)) (book : Book) (text : List ℕ)
    → s.penalty ≤ PENALTY → s.plans ≤ PLANS → length names ≤ FEEDS →
    IsTakenUp facts s (length names) old.store contents book
    → IsDueOver facts given faults (λ net times notes. Unit {0}) names store feeds tails old new Refused s text
    → (text ≡ store_line (codes "full")) ⊎ IsFeedRefusal facts given s (length names) tails old new text

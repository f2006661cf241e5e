-- Lives of a server over one store, each begun with what a crash left.
use Rattle.std.specs.Prelude.{ℕ, ◌≡◌, ◌⊎◌, List, [], length, map, slice_get, Option, None, Some, Ok, IfSome}
use Rattle.dm_cert.specs.Answers.{Setting}
use Rattle.dm_input.specs.Input.{Opening, OpeningAnswer, Told}
use Rattle.dm_words.specs.Serving.{ServerAsked}
use Rattle.dm_store.specs.declared.store.Store.{Ghosts as StoreFacts}
use Rattle.dm_store.specs.Calls.{AreFronts, AddsNone, LeavesOnly}
use Rattle.dm_store.specs.Journals.{HasCrashEnd, IsFound}
use Rattle.dm_store.specs.declared.journal.Journal.{Journal}
use Rattle.dm_book.specs.Books.{Book, IsFrontBook, IsSafe, reply_text}
use Rattle.dm_tail.specs.Sources.{AnswerFronts}
use Rattle.dm_tail.specs.declared.tail.Tail.{Tail}
use Rattle.dm_restore.specs.Restoring.{IsRestored}
use Rattle.dm_store_text.specs.Asked.{setting_for}

-- nothing was read of the feeds that could be opened
abbrev pub NothingIsRead : {T : Type 0} → (T → Option (List ℕ)) → List (Option T) → Type 0
NothingIsRead {T} given feeds = (place : ℕ) (feed : T) → slice_get feeds place ≡ Some (Some feed) →
    IfSome (given feed) (λ bytes. bytes ≡ [])

-- The store was found with these blocks on the disk, and an end that a crash may leave. They hold this true book, of so many feeds, and
-- what was shown is a front of its logs. So it is after a crash of an earlier life, and where nothing was served yet.
pub record IsTakenUp {S : Type 0} (facts : StoreFacts S)
    (s : Setting) (feeds : ℕ) (store : S) (contents : List (List ℕ)) (book : Book) : Type 0 where
  pub found : IsFound facts.tells facts.seen facts.may_leave contents store
  pub crash_end : HasCrashEnd contents (facts.seen store)
  pub restored : IsRestored s feeds contents book
  pub shown_fronts : AreFronts (facts.shown store) (map reply_text book.logs)

-- a store that was only looked at
pub record IsLeft {S : Type 0} (facts : StoreFacts S) (old new : S) : Type 0 where
  pub journal : facts.seen new ≡ facts.seen old
  pub replies : facts.shown new ≡ facts.shown old
  pub none : AddsNone (facts.may_leave old) (facts.may_leave new)

-- ---- feeds

-- what is given to a feed of a server, if it could be opened
abbrev pub source_of : {T : Type 0} → (T → Option (List ℕ)) → Option T → Option (List ℕ)
source_of source None = None
source_of source (Some feed) = source feed

abbrev pub tail_source : {T : Type 0} → (T → Option (List ℕ)) → Tail T → Option (List ℕ)
tail_source source tail = source tail.feed

-- the feeds at the end are none, or those of these sources, in their order
abbrev pub AreFeedsOf : {T : Type 0} → (T → Option (List ℕ)) → List (Option (List ℕ)) → List (Tail T) → Type 0
AreFeedsOf source sources tails = (tails ≡ []) ⊎ (map (tail_source source) tails ≡ sources)

-- ---- one life

-- Whatever a crash left at any moment of a life is safe between the first book and one last book, which is the same for all moments and
-- goes on from the first. What was shown then is a front of what is shown at the end. Nothing was answered in that life, or each log
-- of the last book answers a front of its own feed's source.
pub record LivesOn {S : Type 0} (facts : StoreFacts S) (s : Setting)
    (first : Book) (sources : List (Option (List ℕ))) (old new : S) : Type 0 where
  pub last : Book
  pub grows : IsFrontBook first last
  pub leaves : LeavesOnly facts.moment facts.left_since old new (IsSafe s first last)
  pub shows : LeavesOnly facts.moment facts.left_since old new (λ image. AreFronts image.shown (facts.shown new))
  pub answers : (last ≡ first) ⊎ AnswerFronts sources last.logs

-- Whatever true book was found, the life goes on from it.
abbrev pub KeepsBooks : {S : Type 0} → StoreFacts S → Setting → ℕ → List (Option (List ℕ)) → S → S → Type 0
KeepsBooks facts s feeds sources old new =
    (contents : List (List ℕ)) (first : Book) → IsTakenUp facts s feeds old contents first →
    LivesOn facts s first sources old new

-- The files under the names of the words determine a network and start rows, over which books are kept.
pub record KeepsBooksOver {S : Type 0} (facts : StoreFacts S)
    (told : Told) (asked : ServerAsked) (sources : List (Option (List ℕ))) (old new : S) : Type 0 where
  pub opening : Opening
  pub opens : OpeningAnswer told asked.run.files (Ok opening)
  pub keeps : KeepsBooks facts (setting_for asked opening) (length asked.run.feeds) sources old new

-- Nothing was done to the store, or it was taken up and books are kept.
abbrev pub LivesSafely : {S : Type 0} → StoreFacts S → Told → ServerAsked → List (Option (List ℕ)) → Journal S → Journal S → Type 0
LivesSafely facts told asked sources old new =
    (new ≡ old) ⊎ KeepsBooksOver facts told asked sources old.store new.store

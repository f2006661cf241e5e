-- How a server ends, by its status: what is due to be written, and why.
use Rattle.std.specs.Prelude.{ℕ, ◌≡◌, ◌≢◌, ◌⊎◌, ◌+◌, ◌<◌, List, [], length, codes, Option, None, Some, IfSome, slice_get, slice_index_or}
use Rattle.std.specs.List.{flat_map}
use mathlib.Core.List.{IsPrefix}
use Rattle.std.specs.Io.KnownBytes.{Keeps}
use Rattle.dm_outside.specs.Faults.{HasRisen}
use Rattle.dm_network.specs.Net.{Net}
use Rattle.dm_publish.specs.Value.{Published}
use Rattle.dm_cert.specs.declared.notes.Note.{Note}
use Rattle.dm_cert.specs.declared.replies.LogItem.{LogItem}
use Rattle.dm_cert.specs.Answers.{Setting}
use Rattle.dm_input.specs.Input.{Told}
use Rattle.dm_words.specs.Serving.{ServerAsked}
use Rattle.dm_store.specs.declared.store.Store.{Ghosts as StoreFacts}
use Rattle.dm_store.specs.Blocks.{block}
use Rattle.dm_store.specs.Journals.{IsFound}
use Rattle.dm_store.specs.declared.journal.Journal.{Journal}
use Rattle.dm_book.specs.Books.{AreRecorded, Book, IsFrontBook, reply_text}
use Rattle.dm_desk.specs.Desks.{DeskValue}
use Rattle.dm_tail.specs.Feeds.{AnswersAll}
use Rattle.dm_tail.specs.declared.tail.Tail.{Tail}
use Rattle.dm_tail.specs.declared.watched.Watched.{Watched}
use Rattle.dm_watch.specs.Rounds.{IsWatching, book_of}
use Rattle.dm_watch.specs.Stops.{IsTooLong}
use Rattle.dm_catch_up.specs.Feeds.{DiffersAt}
use Rattle.dm_store_text.specs.Files.{IsOfFiles, IsOver}
use Rattle.dm_store_text.specs.Lines.{feed_line, refusal_line, reply_line, store_line, unread_line}
use Rattle.dm_store_text.specs.Written.{FailsToWrite, Writes}
use Rattle.dm_restore.specs.Restoring.{IsRestored, RefusesBook}
use Rattle.dm_restore.specs.declared.stops.RestoreStop.{RestoreStop}
use Rattle.dm_restore.specs.declared.stops.RestoreStop.TheVariants.{OutOfMemory as NoRoom}
use Rattle.dm_store_text.specs.declared.status.Status.{Status}
use Rattle.dm_store_text.specs.declared.status.Status.TheVariants.{Ok as Well, Usage, Refused, ReadFault, WriteFault, NoMemory}
use Rattle.dm_serve.specs.Lives.{IsLeft, IsTakenUp}
use Rattle.dm_serve.specs.Served.{IsDayOf}

-- ---- what is refused

-- What the journal holds is refused: its blocks, where the store tells them, are refused for this. The store was only looked at.
pub record IsStoreRefusal {S : Type 0} (facts : StoreFacts S) (s : Setting) (feeds : ℕ) (old new : Journal S) (text : List ℕ) : Type 0 where
  pub why : RestoreStop
  pub some : why ≢ NoRoom
  pub cause : (contents : List (List ℕ)) (found : IsFound facts.tells facts.seen facts.may_leave contents old.store) →
      RefusesBook s feeds (facts.seen old.store) contents found.stands.end why
  pub left : (contents : List (List ℕ)) → IsFound facts.tells facts.seen facts.may_leave contents old.store → IsLeft facts old.store new.store
  pub line : text ≡ refusal_line why

-- The reply file of this number, from 1, is no front of its log in the book that the blocks hold: it holds more. The store was only
-- looked at.
pub record IsReplyRefusal {S : Type 0} (facts : StoreFacts S) (s : Setting) (feeds : ℕ) (old new : Journal S) (text : List ℕ) : Type 0 where
  pub place : ℕ
  pub within : place < feeds
  pub cause : (contents : List (List ℕ)) (book : Book) (items : List LogItem) →
      IsFound facts.tells facts.seen facts.may_leave contents old.store → IsRestored s feeds contents book
      → slice_get book.logs place ≡ Some items → place < length (facts.shown old.store) →
      IsPrefix (slice_index_or (facts.shown old.store) place []) (reply_text items) → ⊥
  pub left : facts.tells old.store → IsLeft facts old.store new.store
  pub line : text ≡ reply_line (place + 1)

-- A feed has another line than was answered: what it has given does not go on with the log in the book that was found. The store was
-- only looked at.
pub record IsFeedRefusal {S T : Type 0} (facts : StoreFacts S) (given : T → Option (List ℕ)) (s : Setting) (feeds : ℕ) (tails : List (Tail T))
    (old new : Journal S) (text : List ℕ) : Type 0 where
  pub place : ℕ
  pub within : place < feeds
  pub at_line : ℕ
  pub tail : Tail T
  pub stands : slice_get tails place ≡ Some tail
  pub changed : (contents : List (List ℕ)) (first : Book) (items : List LogItem) →
      IsTakenUp facts s feeds old.store contents first
      → slice_get first.logs place ≡ Some items → IfSome (given tail.feed) (λ bytes. DiffersAt bytes items at_line)
  pub left : facts.tells old.store → IsLeft facts old.store new.store
  pub line : text ≡ feed_line (place + 1) at_line

-- Feeds were answered from a book on to which the first grew, and its blocks would be too long with the round of what was answered.
pub record IsFullOf {T : Type 0} (given : T → Option (List ℕ)) (s : Setting) (first : Book) : Type 0 where
  pub desk : DeskValue
  pub desk_now : DeskValue
  pub feeds : List (Watched T)
  pub answered : List (Watched T)
  pub batch : ℕ
  pub setting : desk.setting ≡ s
  pub watching : IsWatching given desk feeds
  pub grows : IsFrontBook first (book_of desk feeds)
  pub contents : List (List ℕ)
  pub recorded : AreRecorded s contents (book_of desk feeds).logs
  pub answers : AnswersAll given batch desk desk_now feeds answered
  pub too_long : IsTooLong (length (flat_map block contents)) answered

-- the journal is full
pub record IsFull {S T : Type 0} (facts : StoreFacts S) (given : T → Option (List ℕ)) (s : Setting) (feeds : ℕ) (old : Journal S)
    (text : List ℕ) : Type 0 where
  pub cause : (contents : List (List ℕ)) (first : Book) →
      IsTakenUp facts s feeds old.store contents first → IsFullOf given s first
  pub line : text ≡ store_line (codes "full")

-- ---- what cannot be opened or read

-- the feed at this place could not be opened, or a call of it has failed
pub record HasFailed {T : Type 0} (faults : T → ℕ) (feeds : List (Option T)) (tails : List (Tail T)) (place : ℕ) : Type 0 where
  pub feed : T
  pub tail : Tail T
  pub was : slice_get feeds place ≡ Some (Some feed)
  pub is : slice_get tails place ≡ Some tail
  pub risen : HasRisen (faults feed) (faults tail.feed)

-- a feed of this name
pub record IsFeedFault {T : Type 0} (faults : T → ℕ) (names : List (List ℕ)) (feeds : List (Option T)) (tails : List (Tail T))
    (text : List ℕ) : Type 0 where
  pub place : ℕ
  pub name : List ℕ
  pub named : slice_get names place ≡ Some name
  pub cause : (slice_get feeds place ≡ Some None) ⊎ HasFailed faults feeds tails place
  pub line : text ≡ unread_line name

-- The store, of which a call has failed. It was only looked at.
pub record IsStoreFault {S : Type 0} (facts : StoreFacts S) (store : List ℕ) (old new : Journal S) (text : List ℕ) : Type 0 where
  pub risen : HasRisen (facts.faults old.store) (facts.faults new.store)
  pub left : (contents : List (List ℕ)) → IsFound facts.tells facts.seen facts.may_leave contents old.store → IsLeft facts old.store new.store
  pub line : text ≡ unread_line store

-- ---- by status

-- The text that is due at a status over a network and start rows, to feeds of these names and a store of this one.
abbrev pub IsDueOver : {S T : Type 0} → StoreFacts S → (T → Option (List ℕ)) → (T → ℕ) → (Net → Published → List Note → Type 0) → List (List ℕ) →
    List ℕ → List (Option T) → List (Tail T) → Journal S → Journal S → Status → Setting → List ℕ → Type 0
IsDueOver facts given faults up names store feeds tails old new Well s text =
    IsDayOf facts given up s (length names) tails old new text
IsDueOver facts given faults up names store feeds tails old new Refused s text =
    IsStoreRefusal facts s (length names) old new text
    ⊎ (IsReplyRefusal facts s (length names) old new text
    ⊎ (IsFeedRefusal facts given s (length names) tails old new text
    ⊎ IsFull facts given s (length names) old text))
IsDueOver facts given faults up names store feeds tails old new ReadFault s text =
    IsFeedFault faults names feeds tails text ⊎ IsStoreFault facts store old new text
IsDueOver facts given faults up names store feeds tails old new Usage s text = ⊥
IsDueOver facts given faults up names store feeds tails old new WriteFault s text = ⊥
IsDueOver facts given faults up names store feeds tails old new NoMemory s text = ⊥

-- The text that is due at a status; a write fault and want of memory have none of their own.
abbrev pub IsDue : {S T : Type 0} → StoreFacts S → (T → Option (List ℕ)) → (T → ℕ) → (Net → Published → List Note → Type 0) → Told →
    (List ℕ → Type 0) → ServerAsked → List (Option T) → List (Tail T) → Journal S → Journal S → Status → List ℕ → Type 0
IsDue facts given faults up told is_sound asked feeds tails old new status text =
    IsOfFiles told is_sound asked status text
    ⊎ IsOver told asked
    (IsDueOver facts given faults up asked.run.feeds asked.store feeds tails old new status) text

-- a call of some feed has failed
pub record HasUnsynced {T : Type 0} (faults : T → ℕ) : Type 0 where
  pub feed : T
  pub later : T
  pub risen : HasRisen (faults feed) (faults later)

-- The sink failed so; or a call of the store has failed, or a feed could not be synced, and nothing was written to the sink.
abbrev pub HasWriteFault : {K S T : Type 0} → (K → Option (List ℕ)) → (K → ℕ) → StoreFacts S → (T → ℕ) → K → K → Journal S →
    Journal S → (Status → List ℕ → Type 0) → Type 0
HasWriteFault taken sink_faults facts faults before now old new due =
    FailsToWrite taken sink_faults before now due
    ⊎ (Keeps (taken before) (taken now) × (HasRisen (facts.faults old.store) (facts.faults new.store) ⊎ HasUnsynced faults))

-- how a server ends, by its status
abbrev pub Ends : {K S T : Type 0} → (K → Option (List ℕ)) → (K → ℕ) → StoreFacts S → (T → ℕ) → (Status → List ℕ → Type 0) → K → K →
    Journal S → Journal S → Status → Type 0
Ends taken sink_faults facts faults due before now old new WriteFault =
    HasWriteFault taken sink_faults facts faults before now old new due
Ends taken sink_faults facts faults due before now old new NoMemory = Keeps (taken before) (taken now)
Ends taken sink_faults facts faults due before now old new status = Writes (taken before) (taken now) (due status)

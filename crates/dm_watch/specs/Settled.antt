-- Logs that are settled: they stand in the journal, and are shown. And what is known of a feed besides its log.
use Rattle.std.specs.Prelude.{ℕ, ◌≡◌, List, length, take, drop, map, Bool, Option}
use Rattle.dm_cert.specs.declared.replies.LogItem.{LogItem}
use Rattle.dm_cert.specs.Answers.{Setting}
use Rattle.dm_feed.specs.declared.feed.FeedStop.{FeedStop}
use Rattle.dm_store.specs.declared.store.Store.{Ghosts as StoreFacts}
use Rattle.dm_store.specs.Journals.{IsAtRest}
use Rattle.dm_store.specs.declared.journal.Journal.{Journal}
use Rattle.dm_book.specs.Books.{AreRecorded, reply_text}
use Rattle.dm_tail.specs.declared.watched.Watched.{Watched}

-- the items of a log that were shown, and those that were not yet
abbrev pub old_items : {T : Type 0} → Watched T → List LogItem
old_items watched = take watched.shown watched.log.items

abbrev pub new_items : {T : Type 0} → Watched T → List LogItem
new_items watched = drop watched.shown watched.log.items

abbrev pub all_items : {T : Type 0} → Watched T → List LogItem
all_items watched = watched.log.items

-- all items of the log were shown
abbrev pub IsShown : {T : Type 0} → Watched T → Type 0
IsShown watched = watched.shown ≡ length watched.log.items

-- The journal is at rest with these logs in its blocks, and the reply files show them.
pub record AreSettled {S : Type 0} (facts : StoreFacts S)
    (s : Setting) (contents : List (List ℕ)) (logs : List (List LogItem)) (journal : Journal S) : Type 0 where
  pub rest : IsAtRest facts.tells facts.seen facts.may_leave contents journal
  pub recorded : AreRecorded s contents logs
  pub all_shown : facts.shown journal.store ≡ map reply_text logs

-- the journal has these logs in some blocks, and the reply files show them
pub record HaveSettled {S : Type 0} (facts : StoreFacts S)
    (s : Setting) (logs : List (List LogItem)) (journal : Journal S) : Type 0 where
  pub contents : List (List ℕ)
  pub settled : AreSettled facts s contents logs journal

-- what is known of a feed: what it has given, what of it is pending, how many bytes were read, whether a line may be pending, how
-- many lines were passed, why it is read no further, and the log with how many of its items were shown
pub record LogParts : Type 0 where
  pub given : Option (List ℕ)
  pub pending : List ℕ
  pub taken : ℕ
  pub has_line : Bool
  pub lines : ℕ
  pub stop : Option FeedStop
  pub items : List LogItem
  pub shown : ℕ

-- what stays of a feed that is synced
abbrev pub log_parts : {T : Type 0} → (T → Option (List ℕ)) → Watched T → LogParts
log_parts given watched = record {
  given = given watched.tail.feed;
  pending = watched.tail.pending.items;
  taken = watched.tail.taken;
  has_line = watched.tail.has_line;
  lines = watched.lines;
  stop = watched.tail.stop;
  items = watched.log.items;
  shown = watched.shown;
}

-- the same, with all items shown
abbrev pub shown_parts : {T : Type 0} → (T → Option (List ℕ)) → Watched T → LogParts
shown_parts given watched = record (log_parts given watched) { shown = length watched.log.items }

-- the feeds are as before, but that all items were shown
abbrev pub AreAllShown : {T : Type 0} → (T → Option (List ℕ)) → List (Watched T) → List (Watched T) → Type 0
AreAllShown given before now = map (log_parts given) now ≡ map (shown_parts given) before

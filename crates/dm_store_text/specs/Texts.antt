-- What the text of a store is: that of the run whose book its journal holds, or why there is none.
use Rattle.std.specs.Prelude.{ℕ, ◌≡◌, ◌≢◌, ◌⊎◌, List, [], ◌++◌, codes, length, map, None}
use Rattle.dm_cert.specs.declared.replies.FeedLog.{FeedLog}
use Rattle.dm_cert.specs.declared.replies.LogItem.{LogItem}
use Rattle.dm_cert.specs.Answers.{Setting}
use Rattle.dm_cert.specs.RunTexts.{Run}
use Rattle.dm_cert.specs.Runs.{IsTextOf}
use Rattle.dm_input.specs.Input.{IsHeld, Told}
use Rattle.dm_words.specs.Serving.{ServerAsked}
use Rattle.dm_store.specs.Blocks.{Stands, refusal}
use Rattle.dm_book.specs.Books.{log_of}
use Rattle.dm_restore.specs.Restoring.{IsRestored, RefusesBook}
use Rattle.dm_restore.specs.declared.stops.RestoreStop.{RestoreStop}
use Rattle.dm_restore.specs.declared.stops.RestoreStop.TheVariants.{OutOfMemory as NoRoom}
use Rattle.dm_store_text.specs.Files.{IsOfFiles, IsOver}
use Rattle.dm_store_text.specs.Lines.{refusal_line, unread_line}
use Rattle.dm_store_text.specs.declared.status.Status.{Status}
use Rattle.dm_store_text.specs.declared.status.Status.TheVariants.{Ok as Well, Refused, ReadFault}

-- the name of a store's journal
abbrev pub journal_name : ServerAsked → List ℕ
journal_name asked = asked.store ++ codes "/journal"

-- the items of each log
abbrev pub items_of : List FeedLog → List (List LogItem)
items_of logs = map (λ log. log.items) logs

-- ---- what the bytes of a journal give

-- The text is that of a true run, in version 2, of a network and start rows. The book of its history and logs is the one in the
-- blocks that the bytes are, behind which nothing stands that no crash leaves. There is a log for each feed, each may go on, and there
-- are no notes.
pub record IsTextIn (s : Setting) (feeds : ℕ) (bytes text : List ℕ) : Type 0 where
  pub run : Run
  pub net : run.net ≡ s.net
  pub penalty : run.penalty ≡ s.penalty
  pub notes : run.notes ≡ []
  pub go_on : run.logs ≡ map log_of (items_of run.logs)
  pub restored : (contents : List (List ℕ)) → Stands contents bytes
      → IsRestored s feeds contents (record { history = run.history; logs = items_of run.logs })
  pub whole : (contents : List (List ℕ)) (stands : Stands contents bytes) → refusal contents stands.end ≡ None
  pub is_text : IsTextOf 2 s.plans s.start run text

-- the blocks that the bytes are, or what stands behind them, are refused for this
pub record IsRefusalOf (s : Setting) (feeds : ℕ) (bytes text : List ℕ) : Type 0 where
  pub why : RestoreStop
  pub some : why ≢ NoRoom
  pub cause : (contents : List (List ℕ)) (stands : Stands contents bytes) → RefusesBook s feeds bytes contents stands.end why
  pub line : text ≡ refusal_line why

-- the text that is due at a status
abbrev pub IsOfBytes : Setting → ℕ → List ℕ → Status → List ℕ → Type 0
IsOfBytes s feeds bytes Well text = IsTextIn s feeds bytes text
IsOfBytes s feeds bytes Refused text = IsRefusalOf s feeds bytes text
IsOfBytes s feeds bytes status text = ⊥

-- ---- what a store gives

-- the journal under its name has these bytes, and the text is of them
pub record IsOfJournal (told : Told) (asked : ServerAsked) (status : Status) (s : Setting) (text : List ℕ) : Type 0 where
  pub bytes : List ℕ
  pub held : IsHeld told (journal_name asked) bytes
  pub is : IsOfBytes s (length asked.run.feeds) bytes status text

-- the shelf does not tell the journal's name sound
pub record IsJournalFault (is_sound : List ℕ → Type 0) (asked : ServerAsked) (text : List ℕ) : Type 0 where
  pub unsound : is_sound (journal_name asked) → ⊥
  pub line : text ≡ unread_line (journal_name asked)

-- the text that is due at a status over a network and start rows
abbrev pub IsOfStore : Told → (List ℕ → Type 0) → ServerAsked → Status → Setting → List ℕ → Type 0
IsOfStore told is_sound asked ReadFault s text = IsJournalFault is_sound asked text
IsOfStore told is_sound asked status s text = IsOfJournal told asked status s text

-- The text that is due at a status: it is of the files, or over what they determine of the store.
abbrev pub IsDueText : Told → (List ℕ → Type 0) → ServerAsked → Status → List ℕ → Type 0
IsDueText told is_sound asked status text =
    IsOfFiles told is_sound asked status text ⊎ IsOver told asked (IsOfStore told is_sound asked status) text

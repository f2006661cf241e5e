-- What the text of a store is refused for that holds what a crash left.
use Rattle.std.specs.Prelude.{ℕ, ◌≡◌, List, length, codes}
use Rattle.dm_cert.specs.Answers.{Setting}
use Rattle.dm_input.specs.Input.{IsHeld, Opening, Told}
use Rattle.dm_words.specs.Serving.{ServerAsked}
use Rattle.dm_store.specs.Blocks.{Stands}
use Rattle.dm_store.specs.Journals.{HasCrashEnd}
use Rattle.dm_book.specs.Books.{Book}
use Rattle.dm_restore.specs.Restoring.{IsRestored}
use Rattle.dm_store_text.specs.Asked.{IsWithin, setting_for}
use Rattle.dm_store_text.specs.Lines.{store_line}
use Rattle.dm_store_text.specs.Texts.{IsOfStore, journal_name}
use Rattle.dm_store_text.specs.declared.status.Status.TheVariants.{Refused}

-- the bytes of a journal are blocks that hold a true book of so many feeds, and an end that a crash may leave
pub record HoldsBook (s : Setting) (feeds : ℕ) (bytes : List ℕ) : Type 0 where
  pub contents : List (List ℕ)
  pub book : Book
  pub stands : Stands contents bytes
  pub crash_end : HasCrashEnd contents bytes
  pub restored : IsRestored s feeds contents book

-- Where the journal that a shelf tells of does so, a text that is due at the status Refused says that there is no room.
abbrev pub IsTextRefusedSo : {H : Type 0} → (H → Told) → (H → List ℕ → Type 0) → Type 0
IsTextRefusedSo {H} files is_sound =
    (shelf : H) (asked : ServerAsked) (opening : Opening) (text : List ℕ) → IsWithin asked
    → ((bytes : List ℕ) → IsHeld (files shelf) (journal_name asked) bytes →
    HoldsBook (setting_for asked opening) (length asked.run.feeds) bytes)
    → IsOfStore (files shelf) (is_sound shelf) asked Refused (setting_for asked opening) text → text ≡ store_line (codes "full")

-- What is not refused of a journal.
use Rattle.std.specs.Prelude.{ℕ, ◌≡◌, ◌⊎◌, ◌≤◌, List, None}
use Rattle.dm_base.specs.declared.limits.TheConstants.{FEEDS, PENALTY}
use Rattle.dm_cert.specs.declared.limits.TheConstants.{PLANS}
use Rattle.dm_cert.specs.Answers.{Setting}
use Rattle.dm_store.specs.Blocks.{refusal}
use Rattle.dm_book.specs.Books.{Book}
use Rattle.dm_restore.specs.Restoring.{IsRestored, RefusesBook}
use Rattle.dm_restore.specs.declared.stops.RestoreStop.{RestoreStop}
use Rattle.dm_restore.specs.declared.stops.RestoreStop.TheVariants.{OutOfMemory, Full}

-- Blocks that hold a true book, with an end that a crash may leave, are refused for want of memory or of room alone: not for their
-- head, nor for their form, nor as a false book.
abbrev pub TrueBooksAreNotRefused : Type 0
TrueBooksAreNotRefused =
    (s : Setting) (feeds : ℕ) (file : List ℕ) (contents : List (List ℕ)) (end : List ℕ) (book : Book) (why : RestoreStop) →
    s.penalty ≤ PENALTY → s.plans ≤ PLANS → feeds ≤ FEEDS
    → IsRestored s feeds contents book → refusal contents end ≡ None → RefusesBook s feeds file contents end why →
    (why ≡ OutOfMemory) ⊎ (why ≡ Full)

-- Replies that are shown one feed after another, from a journal that has them.
use Rattle.std.specs.Prelude.{ℕ, ◌≡◌, List, ◌∷◌, ◌++◌, length, map, Result, Vec, OnOk}
use Rattle.std.specs.declared.alloc.Global.{Global}
use Rattle.dm_cert.specs.Answers.{Setting}
use Rattle.dm_store.specs.declared.store.Store.{Ghosts as StoreFacts}
use Rattle.dm_store.specs.Blocks.{at_rest}
use Rattle.dm_store.specs.Calls.{AreFronts, LeavesJournal, LeavesOnly}
use Rattle.dm_book.specs.Books.{Book, IsTrueBook, IsFrontBook, AreRecorded, IsSafe, reply_text}
use Rattle.dm_tail.specs.declared.watched.Watched.{Watched}
use Rattle.dm_watch.specs.Settled.{old_items, all_items}

-- what the reply file of a feed shows before its new items, and after them
abbrev pub old_text : {T : Type 0} → Watched T → List ℕ
old_text watched = reply_text (old_items watched)

abbrev pub all_text : {T : Type 0} → Watched T → List ℕ
all_text watched = reply_text (all_items watched)

-- the book after is a true one, and stands in the blocks
pub record IsKeptBook (s : Setting) (contents : List (List ℕ)) (before after : Book) : Type 0 where
  pub recorded : AreRecorded s contents after.logs
  pub is_true : IsTrueBook s after
  pub grows : IsFrontBook before after

-- Since a start a crash left a true book between two. The journal is at rest, and the reply files show these texts, which are fronts
-- of the later book's logs.
pub record IsShowing {S : Type 0} (facts : StoreFacts S)
    (s : Setting) (contents : List (List ℕ)) (before after : Book) (start now : S) (texts : List (List ℕ)) : Type 0 where
  pub told : facts.tells now
  pub file : facts.seen now ≡ at_rest contents
  pub durable : LeavesJournal (facts.seen now) (facts.may_leave now)
  pub is_shown : facts.shown now ≡ texts
  pub fronts : AreFronts texts (map reply_text after.logs)
  pub leaves : LeavesOnly facts.moment facts.left_since start now (IsSafe s before after)

-- The text of one feed was shown behind its old one, or a front of it where the call failed.
abbrev pub ShowsOne : {S T R E : Type 0} → StoreFacts S → Watched T → ℕ → S → S → Result R E → Type 0
ShowsOne {S} facts watched place old new result =
    (s : Setting) (contents : List (List ℕ)) (before after : Book) (start : S) (first rest : List (List ℕ)) →
    place ≡ length first → IsKeptBook s contents before after
    → AreFronts (first ++ all_text watched ∷ rest) (map reply_text after.logs)
    → IsShowing facts s contents before after start old (first ++ old_text watched ∷ rest)
    → LeavesOnly facts.moment facts.left_since start new (IsSafe s before after)
    × OnOk result (IsShowing facts s contents before after start new (first ++ all_text watched ∷ rest))

-- The replies of all feeds were shown, or of some where a call failed: a crash left a true book between the two.
abbrev pub ShowsAll : {S T E : Type 0} → StoreFacts S → List (Watched T) → S → S → Result (Vec (Watched T) Global) E → Type 0
ShowsAll {S} facts feeds old new result =
    (s : Setting) (contents : List (List ℕ)) (before after : Book) (start : S) → IsKeptBook s contents before after →
    after.logs ≡ map all_items feeds
    → IsShowing facts s contents before after start old (map old_text feeds)
    → LeavesOnly facts.moment facts.left_since start new (IsSafe s before after)
    × OnOk result (IsShowing facts s contents before after start new (map all_text feeds))

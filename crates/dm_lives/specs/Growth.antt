-- Feeds that only grow, from one life of a server to the next.
use Rattle.std.specs.Prelude.{ℕ, ◌≡◌, ◌⊎◌, ◌+◌, ◌≤◌, List, ◌∷◌, ◌++◌, length, map, slice_get, codes, Option, Some, IfSome}
use mathlib.Core.List.{IsPrefix}
use Rattle.dm_base.specs.declared.limits.TheConstants.{FEEDS, PENALTY}
use Rattle.dm_cert.specs.declared.limits.TheConstants.{PLANS}
use Rattle.dm_cert.specs.declared.replies.LogItem.{LogItem}
use Rattle.dm_cert.specs.Answers.{Setting}
use Rattle.dm_store.specs.declared.store.Store.{Ghosts as StoreFacts}
use Rattle.dm_store.specs.Calls.{AreFronts, Image}
use Rattle.dm_store.specs.declared.journal.Journal.{Journal}
use Rattle.dm_book.specs.Books.{Book, IsSafe}
use Rattle.dm_desk.specs.Desks.{DeskValue}
use Rattle.dm_tail.specs.declared.tail.Tail.{Tail}
use Rattle.dm_tail.specs.declared.watched.Watched.{Watched}
use Rattle.dm_watch.specs.Rounds.{IsWatching, book_of}
use Rattle.dm_tail.specs.Sources.{AnswerFronts}
use Rattle.dm_catch_up.specs.Feeds.{HasNoLine}
use Rattle.dm_store_text.specs.Lines.{feed_line, store_line}
use Rattle.dm_store_text.specs.declared.status.Status.TheVariants.{Refused}
use Rattle.dm_serve.specs.Ends.{IsDueOver}
use Rattle.dm_lives.specs.Laws.{Holds}

-- the feed has no further line that ends behind those that the first items answer
pub record RunsOut (now : List ℕ) (items : List LogItem) (line : ℕ) : Type 0 where
  pub same : List LogItem
  pub next : LogItem
  pub later : List LogItem
  pub split : items ≡ same ++ next ∷ later
  pub none : HasNoLine now same next line

-- A feed does not give again all that it had given. Where it gives a front of that, it is refused for a line that does not come, and
-- for no other line than was answered.
pub record HasNotGrown (had now : List ℕ) (items : List LogItem) (line : ℕ) : Type 0 where
  pub less : IsPrefix had now → ⊥
  pub out : IsPrefix now had → RunsOut now items line

-- The text names a feed that does not give again what it had given.
pub record IsOfLessFeed {T : Type 0} (given : T → Option (List ℕ)) (had : List (List ℕ)) (logs : List (List LogItem))
    (tails : List (Tail T)) (text : List ℕ) : Type 0 where
  pub place : ℕ
  pub at_line : ℕ
  pub bytes : List ℕ
  pub items : List LogItem
  pub tail : Tail T
  pub gave : slice_get had place ≡ Some bytes
  pub log : slice_get logs place ≡ Some items
  pub stands : slice_get tails place ≡ Some tail
  pub cause : IfSome (given tail.feed) (λ now. HasNotGrown bytes now items at_line)
  pub line : text ≡ feed_line (place + 1) at_line

-- Let a crash have left a life whose last book answers what its feeds had given, and let a store hold what it left. Over that store a
-- text that is due at the status Refused says that there is no room, or names a feed that does not give again what it had given. It is
-- asked of no board.
abbrev pub IsComplete : {S T : Type 0} → StoreFacts S → (T → Option (List ℕ)) → (T → ℕ) → Type 0
IsComplete {S} {T} facts given faults =
    (s : Setting) (first last : Book) (image : Image) (had names : List (List ℕ)) (store : List ℕ) (feeds : List (Option T))
    (tails : List (Tail T)) (old new : Journal S) (text : List ℕ)
    → s.penalty ≤ PENALTY → s.plans ≤ PLANS → length names ≤ FEEDS → length names ≡ length first.logs
    → (safe : IsSafe s first last image) → AnswerFronts (map Some had) last.logs → Holds facts image old.store
    → IsDueOver facts given faults (λ net times notes. Unit {0}) names store feeds tails old new Refused s text
    → (text ≡ store_line (codes "full")) ⊎ IsOfLessFeed given had safe.book.logs tails text

-- Between two rounds of a watch its book answers what the feeds have given.
abbrev pub RoundsAnswer : {T : Type 0} → (T → Option (List ℕ)) → Type 0
RoundsAnswer {T} given =
    (desk : DeskValue) (feeds : List (Watched T)) (had : List (List ℕ)) → IsWatching given desk feeds →
    map (λ watched. given watched.tail.feed) feeds ≡ map Some had → AnswerFronts (map Some had) (book_of desk feeds).logs

-- What the logs of a book answer of their feeds, the logs of each front of it answer too: so it is at each moment of a life.
abbrev pub FrontsAnswer : Type 0
FrontsAnswer = (sources : List (Option (List ℕ))) (logs some : List (List LogItem)) → AreFronts some logs → AnswerFronts sources logs
    → AnswerFronts sources some

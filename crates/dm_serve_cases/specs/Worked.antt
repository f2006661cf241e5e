-- A life over a new store in memory and two feeds in memory. All that a server's promises ask of a store and of feeds holds there.
use Rattle.std.specs.Prelude.{◌≡◌, ◌⊎◌, List, [], ◌∷◌, Option, Some, map, length, ℕ}
use Rattle.dm_cert.specs.Answers.{Setting}
use Rattle.dm_store.specs.Memory.{left_of, left_since_of, moment_of, seen_of, shown_of, tells_of}
use Rattle.dm_store.specs.declared.memory.MemStore.{MemStore}
use Rattle.dm_store.specs.declared.store.Store.{Ghosts as StoreFacts}
use Rattle.dm_tail.specs.declared.memory.MemFeed.{MemFeed}
use Rattle.dm_serve.specs.Lives.{LivesOn}
use Rattle.dm_lives.specs.Laws.{IsNew, empty_book}
use Rattle.dm_serve_cases.specs.declared.lives.Life.{Life}

-- two feeds, both opened
pub record AreTwo (feeds : List (Option MemFeed)) : Type 0 where
  pub one : MemFeed
  pub other : MemFeed
  pub are : feeds ≡ Some one ∷ Some other ∷ []

-- what is told of a store in memory
abbrev pub of_memory : StoreFacts MemStore
of_memory = record {
  tells = tells_of;
  seen = seen_of;
  shown = shown_of;
  may_leave = left_of;
  moment = moment_of;
  left_since = left_since_of;
  faults = λ store. store.calls.faults;
}

-- nothing was served yet over the store, which is for two feeds
abbrev pub IsNewStore : MemStore → Type 0
IsNewStore = IsNew of_memory 2

-- over some setting, the life goes on from the empty book, and its feeds tell what is written to them
pub record LivesFirst (old now : MemStore) : Type 0 where
  pub setting : Setting
  pub sources : List (List ℕ)
  pub as_many : length sources ≡ 2
  pub lives : LivesOn of_memory setting (empty_book 2) (map Some sources) old now

-- where nothing was served before, nothing was done, or the life goes on so
abbrev pub GoesOnFirst : MemStore → MemStore → Type 0
GoesOnFirst old now = IsNewStore old → (now ≡ old) ⊎ LivesFirst old now

-- a life that began so
pub record IsFirstLife (life : Life) : Type 0 where
  pub old : MemStore
  pub was_new : IsNewStore old
  pub goes_on : (life.store ≡ old) ⊎ LivesFirst old life.store

-- What contracts see of a turn and of its passes.
use Rattle.std.specs.Prelude.{ℕ, ◌≡◌, ◌<◌, ◌≤◌, ◌-◌, ◌==◌, ltb, cond, Bool, List, length, Option, Some, All, count_by, slice_get}
use Rattle.atomic_table.specs.Seated.{TableId}
use Rattle.dm_rows.specs.declared.messages.Entry.{Entry}
use Rattle.dm_turn.specs.declared.view.Numbered.{Numbered}

-- which turn it is, and how many seats its passes have together
pub record TurnValue : Type 0 where
  pub id : TableId
  pub seats : ℕ

-- The turn of a pass, the base of the state that the turn was made with, and how many entries this state had then; whether the
-- pass holds the state; its room; the history that it has seen; and its own entries, with their numbers
pub record PassValue (B : Type 0) : Type 0 where
  pub turn : TableId
  pub base : Option B
  pub opening : ℕ
  pub holds : Bool
  pub room : ℕ
  pub seen : List Entry
  pub mine : List Numbered

-- an entry and its number
abbrev pub numbered : ℕ → Entry → Numbered
numbered n e = record { number = n; entry = e }

-- how often the number n stands in the list
abbrev pub times : ℕ → List Numbered → ℕ
times n mine = count_by (λ m. m.number == n) mine

-- each item is a number above the opening length, and the entry that stands there in the history
abbrev pub AreEntriesOf : ℕ → List Entry → List Numbered → Type 0
AreEntriesOf opening history mine = All (λ m. (opening < m.number) × (slice_get history (m.number - 1) ≡ Some m.entry)) mine

-- the numbers are exactly those above the opening length and up to the end of the history, each once
pub record AreAllAbove (opening : ℕ) (history : List Entry) (mine : List Numbered) : Type 0 where
  pub once : (n : ℕ) → opening < n → n ≤ length history → times n mine ≡ 1
  pub opened : (n : ℕ) → n ≤ opening → times n mine ≡ 0
  pub later : (n : ℕ) → length history < n → times n mine ≡ 0

-- the longer of two histories, the first where they are as long
abbrev pub longer : List Entry → List Entry → List Entry
longer xs ys = cond (ltb (length xs) (length ys)) ys xs

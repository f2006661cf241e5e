-- What is held while a change is made.
use Rattle.std.specs.Prelude.{ℕ, ◌≡◌, ◌<◌, ◌⊎◌, Bool, true, false, List, length, slice_index}
use Rattle.dm_network.specs.Net.{Net, activity_at}
use Rattle.dm_network.specs.Held.{is_held, IsCycleOf}
use Rattle.dm_rows.specs.Active.{is_active}
use Rattle.dm_rows.specs.Rows.{RowsValue}
use Rattle.dm_marks.specs.Marked.{is_marked}
use Rattle.dm_live.specs.Live.{LiveValue}

-- the activity is one of the first n
abbrev pub IsAmong : List ℕ → ℕ → ℕ → Type 0
IsAmong acts n b = (k : ℕ) × (k < n) × (slice_index acts k ≡ b)

abbrev pub IsOnly : ℕ → ℕ → Type 0
IsOnly a b = b ≡ a

-- it is an activity of the network, and one of these
abbrev pub Within : Net → (ℕ → Type 0) → ℕ → Type 0
Within net some b = (b < length net.activities) × some b

-- floors, spans and times stay
pub record KeepsNumbers (before after : LiveValue) : Type 0 where
  pub floors : after.given.floors ≡ before.given.floors
  pub spans : after.given.spans ≡ before.given.spans
  pub times : after.times ≡ before.times

-- the event is the head of a held activity that is not active
pub record IsLetGoAt (net : Net) (rows : RowsValue) (before : LiveValue) (e : ℕ) : Type 0 where
  pub a : ℕ
  pub is_activity : a < length net.activities
  pub was_held : is_held before.given.held a ≡ true
  pub not_active : is_active net rows a ≡ false
  pub head : (activity_at net a).head ≡ e

-- Of what is held, some of what is not active is let go, and all of it among these activities.
pub record LetsGo (net : Net) (rows : RowsValue) (among : ℕ → Type 0) (before after : LiveValue) : Type 0 where
  pub numbers : KeepsNumbers before after
  pub cycle : after.order.cycle ≡ before.order.cycle
  pub fewer : (b : ℕ) → is_held after.given.held b ≡ true → is_held before.given.held b ≡ true
  pub kept : (b : ℕ) → is_held before.given.held b ≡ true → is_active net rows b ≡ true → is_held after.given.held b ≡ true
  pub gone : (b : ℕ) → among b → is_held after.given.held b ≡ true → is_active net rows b ≡ true
  pub marked : (e : ℕ) → is_marked after.marks e ≡ true → (is_marked before.marks e ≡ true) ⊎ IsLetGoAt net rows before e

-- the event is the head of an active activity that is not held
pub record IsTakenUpAt (net : Net) (rows : RowsValue) (before : LiveValue) (e : ℕ) : Type 0 where
  pub a : ℕ
  pub is_activity : a < length net.activities
  pub not_held : is_held before.given.held a ≡ false
  pub active : is_active net rows a ≡ true
  pub head : (activity_at net a).head ≡ e

-- beside what is held, some of what is active is held
pub record HoldsMore (net : Net) (rows : RowsValue) (before after : LiveValue) : Type 0 where
  pub numbers : KeepsNumbers before after
  pub kept : (b : ℕ) → is_held before.given.held b ≡ true → is_held after.given.held b ≡ true
  pub more : (b : ℕ) → is_held after.given.held b ≡ true → (is_held before.given.held b ≡ true) ⊎ (is_active net rows b ≡ true)
  pub marked : (e : ℕ) → is_marked after.marks e ≡ true → (is_marked before.marks e ≡ true) ⊎ IsTakenUpAt net rows before e

-- and all of it among these activities
pub record TakesUp (net : Net) (rows : RowsValue) (among : ℕ → Type 0) (before after : LiveValue) : Type 0 where
  pub held : HoldsMore net rows before after
  pub cycle : after.order.cycle ≡ before.order.cycle
  pub taken : (b : ℕ) → among b → is_active net rows b ≡ true → is_held after.given.held b ≡ true

-- what is held has, with some of what is active, a cycle
pub record IsRefused (net : Net) (rows : RowsValue) (before after : LiveValue) : Type 0 where
  pub held : HoldsMore net rows before after
  pub flags : List Bool
  pub each : (b : ℕ) → is_held flags b ≡ true → (is_held before.given.held b ≡ true) ⊎ (is_active net rows b ≡ true)
  pub is_cycle : IsCycleOf net (is_held flags) after.order.cycle

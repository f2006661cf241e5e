-- What is noted of the times that have moved, and how a copy of the times follows them.
use Rattle.std.specs.Prelude.{ℕ, ◌≡◌, ◌<◌, ◌≤◌, ◌⊎◌, Bool, false, List, [], ◌∷◌, ◌++◌, length, slice_index, slice_index_or, All, Contains}
use Rattle.dm_network.specs.Net.{Net}
use Rattle.dm_marks.specs.Moved.{ListsMoved}
use Rattle.dm_marks.specs.Marked.{is_marked}
use Rattle.dm_rows.specs.declared.messages.Entry.{Entry}
use Rattle.dm_rows.specs.History.{rows_at}
use Rattle.dm_table.specs.Value.{ListsMarked}
use Rattle.dm_rows.specs.Rows.{RowsValue, is_cancelled}
use Rattle.dm_rows.specs.Timetable.{IsLeast, time_at}

-- each event is noted whose time is not the one that it had after the first `since` entries, or that was cancelled then and is
-- not now, or the other way round
pub record AreNoted (net : Net) (start : RowsValue) (history : List Entry) (since : ℕ) (noted : List Bool) (rows : RowsValue)
    (times : List ℕ) : Type 0 where
  pub within : since ≤ length history
  pub as_many : length noted ≡ length net.events
  pub others : (x : List ℕ) → IsLeast net (rows_at net start history since) x → (i : ℕ) → is_marked noted i ≡ false →
      time_at times i ≡ time_at x i
  pub marks : (i : ℕ) → is_marked noted i ≡ false → is_cancelled rows i ≡ is_cancelled (rows_at net start history since) i

-- a copy is what the times are, and the places at which it was not are listed
pub record IsUpToDate (times before after : List ℕ) (listed : List ℕ) : Type 0 where
  pub same : after ≡ times
  pub lists : ListsMoved before after listed

-- each place at which a copy is not what the times and the cancelled events are is among these
abbrev pub IsAmong : List ℕ → RowsValue → List ℕ → List Bool → List ℕ → Type 0
IsAmong times rows into cancelled places =
    (i : ℕ) → ((slice_index into i ≡ slice_index times i) × (slice_index_or cancelled i false ≡ is_cancelled rows i)) ⊎ Contains places i

-- a copy is which events are cancelled, and the places at which it was not are listed
pub record AreMarksUpToDate (flags before after : List Bool) (listed : List ℕ) : Type 0 where
  pub same : after ≡ flags
  pub lists : ListsMarked before after listed

-- the place is listed where it is marked otherwise, and otherwise nothing more
abbrev pub ListsWhereMarked : ℕ → List Bool → List Bool → List ℕ → List ℕ → Type 0
ListsWhereMarked place before after listed listed_now =
    (listed_now ≡ listed ++ place ∷ [])
    ⊎ ((listed_now ≡ listed) × (slice_index_or before place false ≡ slice_index_or after place false))

-- the place is listed where its time has moved, and otherwise nothing more
abbrev pub ListsWhereMoved : ℕ → List ℕ → List ℕ → List ℕ → List ℕ → Type 0
ListsWhereMoved place before after listed listed_now =
    (listed_now ≡ listed ++ place ∷ []) ⊎ ((listed_now ≡ listed) × (slice_index before place ≡ slice_index after place))

-- So far a copy is what the times are but where it is still to be looked at, and the places at which it was not are listed: they
-- are no more than were looked at.
pub record IsRightBut (due : ℕ → Type 0) (times before now listed : List ℕ) (looked : ℕ) : Type 0 where
  pub began : length before ≡ length times
  pub as_many : length now ≡ length times
  pub right : (i : ℕ) → (slice_index now i ≡ slice_index times i) ⊎ due i
  pub each : (i : ℕ) → Contains listed i ⊎ (slice_index before i ≡ slice_index now i)
  pub within : All (λ place. place < length times) listed
  pub few : length listed ≤ looked

-- the same of a copy of which events are cancelled
pub record AreMarksBut (due : ℕ → Type 0) (flags before now : List Bool) (listed : List ℕ) : Type 0 where
  pub as_many : length now ≡ length flags
  pub right : (i : ℕ) → (slice_index_or now i false ≡ slice_index_or flags i false) ⊎ due i
  pub each : (i : ℕ) → Contains listed i ⊎ (slice_index_or before i false ≡ slice_index_or now i false)

-- the first n marks are copied
pub record AreCopied (flags : List Bool) (n : ℕ) (into : List Bool) : Type 0 where
  pub as_many : length into ≡ length flags
  pub same : (i : ℕ) → i < n → slice_index_or into i false ≡ slice_index_or flags i false

-- Boards that are kept up with a table.
--
-- A board is seen through place, the stop that it is of, times and flags, what it tells that stands on it, faults, its count, and
-- is_sound, what it tells of an event.
use Rattle.std.specs.Prelude.{ℕ, ◌≡◌, ◌<◌, ◌≤◌, Bool, List, [], length, map, vec_capacity, Option}
use Rattle.dm_network.specs.Net.{Net}
use Rattle.dm_rows.specs.History.{rows_at}
use Rattle.dm_rows.specs.Timetable.{IsLeast}
use Rattle.dm_cert.specs.Runs.{AreTrueNotes}
use Rattle.dm_publish.specs.Since.{AreKeptSince, AllShowLast, AreUpSince}
use Rattle.dm_publish.specs.Value.{Published, nothing, published}
use Rattle.dm_table.specs.Value.{TableValue}
use Rattle.dm_display.specs.declared.display.Display.{Display}

-- the display was made for this network and so many boards
pub record IsFor (net : Net) (many : ℕ) (display : Display) : Type 0 where
  pub network : display.net.now ≡ net
  pub boards : display.publisher.boards ≡ many
  pub events : display.publisher.events ≡ length net.events
  pub size : length display.times ≡ length net.events
  pub flags : length display.cancelled.items ≡ length net.events
  pub room : length net.events ≤ vec_capacity display.listed

-- nothing was published yet
abbrev pub HasShownNothing : Display → Type 0
HasShownNothing display = (display.publisher.notes ≡ []) × (display.publisher.last ≡ nothing)

-- what a display has: times and marks
abbrev pub held_by : Display → Published
held_by display = published display.times display.cancelled.items

-- what a table has to show
abbrev pub shown_of : TableValue → Published
shown_of table = published table.times table.rows.cancelled

-- the display has the least timetable after the first so many entries of a table, and which events are cancelled then, and this was
-- published last
pub record HasEarlierTimes (table : TableValue) (display : Display) : Type 0 where
  pub within : display.entries ≤ length table.history
  pub least : IsLeast table.network (rows_at table.network table.start table.history display.entries) display.times
  pub marks : display.cancelled.items ≡ (rows_at table.network table.start table.history display.entries).cancelled
  pub last : display.publisher.last ≡ held_by display

-- it has the times and the marks of the table
pub record HasTimes (table : TableValue) (display : Display) : Type 0 where
  pub entries : display.entries ≡ length table.history
  pub earlier : HasEarlierTimes table display

-- the boards were kept up since these first ones, at at most so many entries, and show what was published last
pub record AreKept {B : Type 0} (place : B → ℕ) (times : B → Option (ℕ → Option ℕ)) (flags : B → Option (ℕ → Option Bool)) (faults : B → ℕ)
    (is_sound : B → ℕ → Type 0)
    (net : Net) (entries : ℕ) (display : Display) (first now : List B) : Type 0 where
  pub kept : AreKeptSince place times flags faults is_sound net first now display.publisher.notes
  pub noted : AreTrueNotes entries display.publisher.notes
  pub last : AllShowLast place times flags net display.publisher.last display.publisher.notes first now

-- and each that no note names shows the times of the table; the display has them only where there are boards
pub record AreUp {B : Type 0} (place : B → ℕ) (times : B → Option (ℕ → Option ℕ)) (flags : B → Option (ℕ → Option Bool)) (faults : B → ℕ)
    (is_sound : B → ℕ → Type 0)
    (table : TableValue) (display : Display) (first now : List B) : Type 0 where
  pub is_for : IsFor table.network (length now) display
  pub has : 0 < length now → HasTimes table display
  pub kept : AreKept place times flags faults is_sound table.network (length table.history) display first now
  pub shown : AreUpSince place times flags faults is_sound table.network (shown_of table) display.publisher.notes first now

-- Boards that were kept up to an earlier entry since some first list are shown the times of the table, and keep their stops.
pub record Shows {B : Type 0} (place : B → ℕ) (times : B → Option (ℕ → Option ℕ)) (flags : B → Option (ℕ → Option Bool)) (faults : B → ℕ)
    (is_sound : B → ℕ → Type 0)
    (table : TableValue) (display display_now : Display) (old new : List B) : Type 0 where
  pub up : (first : List B) (entries : ℕ) → entries ≤ length table.history →
      AreKept place times flags faults is_sound table.network entries display first old
      → AreUp place times flags faults is_sound table display_now first new
  pub stops : map place new ≡ map place old

-- Boards that are kept up over a server.
use Rattle.std.specs.Prelude.{ℕ, ◌≡◌, ◌<◌, ◌≤◌, Bool, List, length, map, Option}
use mathlib.Core.List.{IsPrefix}
use Rattle.dm_rows.specs.declared.messages.Entry.{Entry}
use Rattle.dm_rows.specs.History.{IsLegal}
use Rattle.dm_display.specs.declared.display.Display.{Display}
use Rattle.dm_display.specs.Displays.{IsFor, AreKept, held_by}
use Rattle.dm_publish.specs.Value.{published}
use Rattle.dm_server.specs.declared.kept.Base.{Base}
use Rattle.dm_server.specs.Answers.{AreMarksAfter, AreTimesAfter, HasLooked, rows_after}
use Rattle.dm_turn.specs.Passes.{PassValue}
use Rattle.dm_crew.specs.Boards.{AreShown}

-- the display has the times after this history and the marks of the events that are cancelled then, and they were published last
pub record HasTimes (base : Base) (history : List Entry) (display : Display) : Type 0 where
  pub entries : display.entries ≡ length history
  pub least : AreTimesAfter base history display.times
  pub marks : AreMarksAfter base history display.cancelled.items
  pub last : display.publisher.last ≡ held_by display

-- it has the times after some beginning of this history
pub record HasEarlierTimes (base : Base) (seen : List Entry) (display : Display) : Type 0 where
  pub history : List Entry
  pub before : IsPrefix history seen
  pub times : HasTimes base history display

-- the boards were kept up since these first ones, and show the times after this history; the display has them only where there are
-- boards
pub record AreUp {B : Type 0} (place : B → ℕ) (times : B → Option (ℕ → Option ℕ)) (flags : B → Option (ℕ → Option Bool)) (faults : B → ℕ)
    (is_sound : B → ℕ → Type 0)
    (base : Base) (seen : List Entry) (display : Display) (first now : List B) : Type 0 where
  pub is_for : IsFor base.network (length now) display
  pub has : 0 < length now → HasTimes base seen display
  pub kept : AreKept place times flags faults is_sound base.network (length seen) display first now
  pub shown : (x : List ℕ) → AreTimesAfter base seen x →
      AreShown place times flags faults is_sound base.network (published x (rows_after base seen).cancelled) (length seen)
      display.publisher.notes first now

-- The pass has looked at most, and boards that were kept up to an earlier entry are shown the times after the history that it
-- has then seen.
pub record Shows {B : Type 0} (place : B → ℕ) (times : B → Option (ℕ → Option ℕ)) (flags : B → Option (ℕ → Option Bool)) (faults : B → ℕ)
    (is_sound : B → ℕ → Type 0)
    (base : Base) (before now : PassValue Base) (display display_now : Display) (old new : List B) : Type 0 where
  pub looked : HasLooked before now
  pub legal : IsLegal base.network base.start now.seen
  pub up : (first : List B) (entries : ℕ) → entries ≤ length now.seen →
      AreKept place times flags faults is_sound base.network entries display first old
      → AreUp place times flags faults is_sound base now.seen display_now first new
  pub stops : map place new ≡ map place old

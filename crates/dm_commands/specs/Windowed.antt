-- What is printed of a plan of a window, and of what becomes of it at the last entry.
use Rattle.std.specs.Prelude.{ℕ, ◌≡◌, ◌<◌, ◌≤◌, List, [], ◌∷◌, length, map, Some, IfSome, codes}
use Rattle.std.specs.Fmt.{decimal}
use Rattle.dm_outside.specs.Printing.{joined}
use Rattle.dm_network.specs.Net.{Net}
use Rattle.dm_rows.specs.declared.messages.Entry.{Entry}
use Rattle.dm_rows.specs.Rows.{RowsValue}
use Rattle.dm_follow.specs.Followed.{IsFollowed, IsWhole}
use Rattle.dm_input.specs.Lines.{line_end}
use Rattle.dm_outlook.specs.declared.outlook.Outlook.{Outlook}
use Rattle.dm_outlook.specs.Outlooks.{IsOutlook}
use Rattle.dm_outlook.specs.Texts.{outlook_text}
use Rattle.dm_commands.specs.Searching.{search_for}
use Rattle.dm_stretch.specs.declared.windows.Window.{Window}
use Rattle.dm_stretch.specs.Held.{choice_named, IsFirstWithout}
use Rattle.dm_words.specs.declared.queries.WindowWords.{WindowWords}

-- the window is the one that is asked for: what is held are the choices of the activities that are named
pub record IsWindowAsked (net : Net) (asked : WindowWords) (window : Window) : Type 0 where
  pub from : window.from ≡ asked.from
  pub to : window.to ≡ asked.to
  pub held : map (choice_named net) asked.held ≡ map Some window.held

-- The text is a plan of the window, after as many entries of the journal as are named, or after all, which stands whole in these
-- bytes; where it is asked, which of its choices are kept if those that are worth little are given back; and, where entries are named,
-- what becomes of the plan after all.
pub record IsWindowOf (asked : WindowWords) (net : Net) (start : RowsValue) (penalty : ℕ) (bytes text : List ℕ) : Type 0 where
  pub whole : IsWhole net start penalty bytes
  pub history : List Entry
  pub followed : IsFollowed net start penalty bytes history
  pub among : IfSome asked.at (λ n. n ≤ length history)
  pub window : Window
  pub is_asked : IsWindowAsked net asked window
  pub outlook : Outlook
  pub answer : IsOutlook net start penalty history window (search_for asked.solve asked.budget) asked.at asked.minimal outlook
  pub is_text : text ≡ outlook_text window (length history) outlook

unfoldable pub unknown_entry_line : ℕ → List ℕ
unknown_entry_line n = joined (codes "refused entry " ∷ decimal n ∷ line_end ∷ [])

-- the text says that the journal, which stands whole, has fewer entries than are named
pub record IsUnknownEntry (asked : WindowWords) (net : Net) (start : RowsValue) (penalty : ℕ) (bytes text : List ℕ) : Type 0 where
  pub whole : IsWhole net start penalty bytes
  pub history : List Entry
  pub followed : IsFollowed net start penalty bytes history
  pub n : ℕ
  pub named : asked.at ≡ Some n
  pub above : length history < n
  pub is_text : text ≡ unknown_entry_line n

unfoldable pub no_choice_line : ℕ → List ℕ
no_choice_line id = joined (codes "refused window held " ∷ decimal id ∷ line_end ∷ [])

-- the text says that an activity makes no choice that could be held, the first of those that are named; the journal stands whole, and
-- has as many entries as are named
pub record HoldsNoChoice (asked : WindowWords) (net : Net) (start : RowsValue) (penalty : ℕ) (bytes text : List ℕ) : Type 0 where
  pub whole : IsWhole net start penalty bytes
  pub history : List Entry
  pub followed : IsFollowed net start penalty bytes history
  pub among : IfSome asked.at (λ n. n ≤ length history)
  pub id : ℕ
  pub first : IsFirstWithout net asked.held id
  pub is_text : text ≡ no_choice_line id

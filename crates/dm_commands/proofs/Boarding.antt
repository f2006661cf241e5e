-- What becomes of the boards of a run that is answered.
use Rattle.std.proofs.Common.{◌≡◌, ℕ, Bool, List, length, Option, Some, sym, subst}
use Rattle.dm_network.specs.Net.{Net}
use Rattle.dm_cert.specs.declared.notes.Note.{Note}
use Rattle.dm_cert.specs.declared.replies.FeedLog.{FeedLog}
use Rattle.dm_publish.specs.Since.{AreUpSince}
use Rattle.dm_table.specs.Value.{TableValue}
use Rattle.dm_crew.specs.Boards.{AreShown}
use Rattle.dm_commands.specs.Boards.{EndBoards}
use Rattle.dm_commands.specs.Inside.Stages.{ended_in}
use Rattle.dm_display.specs.Displays.{shown_of}

pub end_shown : {B : Type 0} (place : B → ℕ) (times : B → Option (ℕ → Option ℕ)) (flags : B → Option (ℕ → Option Bool)) (faults : B → ℕ) (is_sound : B → ℕ → Type 0) (net : Net) (table : TableValue) (logs : List FeedLog) (notes : List Note) (old new : List B) → table.network ≡ net
    → AreShown place times flags faults is_sound net (shown_of table) (length table.history) notes old new → EndBoards place times flags faults is_sound old new (Some (ended_in table logs notes))
end_shown place times flags faults is_sound net table logs notes old new is s =
    subst (λ (n : Net). AreUpSince place times flags faults is_sound n (shown_of table) notes old new) (sym is) s.up

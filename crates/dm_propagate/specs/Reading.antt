-- Which rows of the network a change makes an engine read.
use Rattle.std.specs.Prelude.{ℕ, nat_eq, ◌+◌, ◌≤◌, List, length}
use Rattle.std.specs.List.{Contains, IsDistinct}
use Rattle.dm_network.specs.Net.{Net}
use Rattle.dm_rows.specs.declared.messages.Change.{Change}
use Rattle.dm_rows.specs.declared.messages.Change.TheVariants.{EventDelay, ActDelay, Passed, Recalled, Flipped, Adopted, Clock, Cancelled, Restored, Locked, Unlocked}
use Rattle.dm_rows.specs.Rows.{RowsValue}
use Rattle.dm_rows.specs.Touch.{MayMove, IsChanged}

-- the clock is not taken back, as no admitted change takes it
abbrev pub KeepsClock : RowsValue → Change → Type 0
KeepsClock rows (Clock t) = rows.clock ≤ t
KeepsClock rows (EventDelay i d) = Unit {0}
KeepsClock rows (ActDelay a d) = Unit {0}
KeepsClock rows (Passed i t) = Unit {0}
KeepsClock rows (Recalled i) = Unit {0}
KeepsClock rows (Cancelled i) = Unit {0}
KeepsClock rows (Restored i) = Unit {0}
KeepsClock rows (Locked spot) = Unit {0}
KeepsClock rows (Unlocked spot) = Unit {0}
KeepsClock rows (Flipped flip) = Unit {0}
KeepsClock rows (Adopted flips) = Unit {0}

-- Beside one row more, the rows read are no more than one for each event of a list of different ones that are touched or
-- follow a changed one by an active activity, and one for each event of a list of different ones that have changed. The
-- rows are those after the change, and the times those before and after it.
pub record ReadsFew (net : Net) (rows : RowsValue) (change : Change) (before after : List ℕ) (first last : ℕ) : Type 0 where
  pub renewed : List ℕ
  pub moved : List ℕ
  pub renewed_once : IsDistinct nat_eq renewed
  pub moved_once : IsDistinct nat_eq moved
  pub may_move : (i : ℕ) → Contains renewed i → MayMove net rows change before after i
  pub changed : (i : ℕ) → Contains moved i → IsChanged before after i
  pub counted : last ≤ first + length renewed + length moved + 1

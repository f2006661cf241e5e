-- What contracts see of boards.
use Rattle.std.specs.Prelude.{ℕ, Bool, List, Option}

-- The stop, the ids of the events that it can show, the time in seconds that it shows of each and whether it shows it as
-- cancelled, the calls that fail, and the shows and cancels and the faults so far.
pub record MemBoardValue : Type 0 where
  pub stop : ℕ
  pub ids : List ℕ
  pub times : List (Option ℕ)
  pub flags : List (Option Bool)
  pub fails : List ℕ
  pub made : ℕ
  pub faults : ℕ

-- the stop of a board in a file, and its faults so far
pub record FileBoardValue : Type 0 where
  pub stop : ℕ
  pub faults : ℕ

-- What is printed of a journal that is followed.
use Rattle.std.specs.Prelude.{ℕ, ◌≡◌, List, [], ◌∷◌, ◌++◌, length, codes}
use Rattle.std.specs.Fmt.{decimal}
use Rattle.dm_outside.specs.Printing.{joined}
use Rattle.dm_network.specs.Net.{Net}
use Rattle.dm_rows.specs.declared.messages.Entry.{Entry}
use Rattle.dm_rows.specs.Cost.{cost_of}
use Rattle.dm_rows.specs.History.{rows_at}
use Rattle.dm_rows.specs.Rows.{RowsValue}
use Rattle.dm_rows.specs.Timetable.{IsLeast}
use Rattle.dm_cert.specs.RunTexts.{timetable_text}
use Rattle.dm_report.specs.Printed.{cancelled_text}
use Rattle.dm_follow.specs.declared.faults.Tail.{Tail}
use Rattle.dm_follow.specs.declared.faults.Tail.TheVariants.{Whole, Torn, Failed}
use Rattle.dm_follow.specs.Journals.{HasNoFrontFault}
use Rattle.dm_follow.specs.Followed.{IsFollowed, IsTail}
use Rattle.dm_input.specs.Lines.{line_end}

-- what there is of a journal's lines: all of them; or the first that is not whole, with how many bytes of it
abbrev pub tail_line : Tail → List ℕ
tail_line Whole = joined (codes "tail whole" ∷ line_end ∷ [])
tail_line (Torn line bytes) = joined (codes "tail torn " ∷ decimal line ∷ codes " " ∷ decimal bytes ∷ line_end ∷ [])
tail_line (Failed line) = []

abbrev pub entries_line : ℕ → List ℕ
entries_line entries = joined (codes "entries " ∷ decimal entries ∷ line_end ∷ [])

abbrev pub cost_line : ℕ → List ℕ
cost_line cost = joined (codes "cost " ∷ decimal cost ∷ line_end ∷ [])

-- so many entries, what there is of the journal's lines, the times of all events, which of them are cancelled, and what this costs
unfoldable pub state_text : Net → RowsValue → ℕ → Tail → List ℕ → ℕ → List ℕ
state_text net rows entries tail times cost =
    entries_line entries ++ (tail_line tail ++ (timetable_text net times ++ (cancelled_text net rows ++ cost_line cost)))

-- The text is the state that these bytes tell, of which no line of the journal breaks its rule: how many entries their longest
-- history has, what there is of the journal's lines, and the least timetable of the rows after all entries, with the events that are
-- cancelled in them, and its cost.
pub record IsStateOf (net : Net) (start : RowsValue) (penalty : ℕ) (bytes text : List ℕ) : Type 0 where
  pub no_fault : HasNoFrontFault net start penalty bytes
  pub history : List Entry
  pub followed : IsFollowed net start penalty bytes history
  pub tail : Tail
  pub is_tail : IsTail net start penalty bytes tail
  pub times : List ℕ
  pub least : IsLeast net (rows_at net start history (length history)) times
  pub is_text : text ≡ state_text net (rows_at net start history (length history)) (length history) tail times
      (cost_of net (rows_at net start history (length history)) times penalty)

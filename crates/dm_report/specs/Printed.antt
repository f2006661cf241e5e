-- The run that is printed, as its text is defined of it, and the text of numbers behind their words.
use Rattle.std.specs.Prelude.{ℕ, List, [], ◌∷◌, ◌++◌, length, codes, if◌then◌else◌}
use Rattle.std.specs.List.{flat_map, range_with_len}
use Rattle.std.specs.Fmt.{decimal}
use Rattle.dm_network.specs.Net.{Net, event_at}
use Rattle.dm_outside.specs.Printing.{joined}
use Rattle.dm_rows.specs.Rows.{RowsValue, is_cancelled}
use Rattle.dm_cert.specs.PlanTexts.{line_end}
use Rattle.dm_cert.specs.RunTexts.{Run as RunValue}
use Rattle.dm_report.specs.declared.runs.Run.{Run}

abbrev pub printed_run : Run → RunValue
printed_run run =
    record {
      net = run.net.now;
      penalty = run.penalty;
      history = run.history.now.entries;
      logs = run.logs.now;
      notes = run.notes.now;
      times = run.times.now;
      cost = run.cost;
    }

-- numbers, each behind its words, and then a last text
abbrev pub labelled : {X : Type 0} → (X → List ℕ) → (X → ℕ) → List X → List ℕ → List ℕ
labelled words number [] last = last
labelled words number (one ∷ more) last = words one ++ (decimal (number one) ++ labelled words number more last)

-- the line of an event that is cancelled, and nothing for another
unfoldable pub mark_text : Net → RowsValue → ℕ → List ℕ
mark_text net rows i =
    if is_cancelled rows i then joined (codes "cancelled " ∷ decimal (event_at net i).id.0 ∷ line_end ∷ []) else []

-- the lines of all events that are cancelled, in ascending id
unfoldable pub cancelled_text : Net → RowsValue → List ℕ
cancelled_text net rows = flat_map (mark_text net rows) (range_with_len 0 (length net.events))

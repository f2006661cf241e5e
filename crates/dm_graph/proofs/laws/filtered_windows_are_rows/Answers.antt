use Rattle.dm_graph.proofs.Windows.{rows_of_windows, windows_list}
use Rattle.dm_graph.proofs.laws.filtered_windows_are_rows.Goals as goal

pub returns : goal.returns
returns c = λ events arcs end offsets places count rises within row.
    (rows_of_windows events arcs end offsets places count rises within row, windows_list events arcs end offsets places count rises within row)

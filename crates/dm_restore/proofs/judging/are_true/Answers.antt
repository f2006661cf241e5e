use Rattle.std.proofs.Common.{ℕ, List, ◌∙◌}
use Rattle.std.specs.Prelude.{IfOk, IsTrue, ◌↔◌}
use Rattle.dm_network.specs.Net.{Net}
use Rattle.dm_rows.specs.Rows.{RowsValue}
use Rattle.dm_rows.specs.declared.messages.Entry.{Entry}
use Rattle.dm_cert.specs.Logs.{AreTrueLogs}
use Rattle.dm_restore.proofs.Judged.{carried}
use Rattle.dm_restore.proofs.judging.are_true.Goals as goal

pub returns : goal.returns
returns c =
    carried (λ (net : Net) (start : RowsValue) (penalty : ℕ) (history : List Entry). IfOk c.are_true_logs.result (λ good. IsTrue good ↔
    AreTrueLogs (record { net = net; start = start; penalty = penalty; plans = c.args.desk.now.plans; version = 2 }) history c.args.logs.now)) _ _ _ _ _ _ _ _
    c.network.ensures c.start.ensures c.penalty.ensures (c.as_slice.ensures ∙ c.history.ensures) c.are_true_logs.ensures

-- What a table keeps between its calls.
use Rattle.std.specs.Prelude.{ℕ, ◌≡◌, ◌≤◌, List, length}
use Rattle.dm_base.specs.declared.limits.TheConstants.{PENALTY}
use Rattle.dm_network.specs.Net.{Net}
use Rattle.dm_propagate.specs.Engine.{EngineValue, IsEngineOf}
use Rattle.dm_rows.specs.declared.messages.Entry.{Entry}
use Rattle.dm_rows.specs.History.{rows_at, IsLegal}
use Rattle.dm_rows.specs.Rows.{RowsValue, IsSized}

-- the history is legal, and the engine's rows are those after all its entries
pub record IsKept (net : Net) (start : RowsValue) (penalty : ℕ) (history : List Entry) (engine : EngineValue) : Type 0 where
  pub sized : IsSized net start
  pub within : penalty ≤ PENALTY
  pub legal : IsLegal net start history
  pub replayed : engine.rows ≡ rows_at net start history (length history)
  pub is_engine : IsEngineOf net engine

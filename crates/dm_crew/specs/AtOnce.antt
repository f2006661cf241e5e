-- What answering feeds at once comes to.
use Rattle.std.specs.Prelude.{ℕ, ◌≡◌, ◌+◌, List, [], length, map, Option}
use Rattle.std.specs.List.{range_with_len}
use Rattle.dm_network.specs.Net.{Net}
use Rattle.dm_rows.specs.Rows.{RowsValue}
use Rattle.dm_cert.specs.declared.replies.FeedLog.{FeedLog}
use Rattle.dm_desk.specs.Desks.{DeskValue}
use Rattle.dm_rounds.specs.Rounds.{AnswersFeeds}
use Rattle.dm_table.specs.Value.{TableValue, IsTable}

-- the numbers from 1 up to one
abbrev pub numbers_to : ℕ → List ℕ
numbers_to n = map (λ k. k + 1) (range_with_len 0 n)

-- a table as a desk, at which all its entries were made and a feed may have so many plans
abbrev pub table_desk : ℕ → TableValue → DeskValue
table_desk plans table =
    record {
      setting = record { net = table.network; start = table.start; penalty = table.penalty; plans = plans; version = 2 };
      seen = table.history;
      mine = numbers_to (length table.history);
    }

-- a day of these rows before any entry, as a desk
abbrev pub day_desk : Net → RowsValue → ℕ → ℕ → DeskValue
day_desk net rows penalty plans =
    record {
      setting = record { net = net; start = rows; penalty = penalty; plans = plans; version = 2 };
      seen = [];
      mine = [];
    }

-- The feeds, of which each may have so many plans, were answered over a server of these rows, whose table this is in the end.
pub record AnswersDay {S : Type 0} (left : S → Option (List ℕ)) (is_sound : S → Type 0) (net : Net) (rows : RowsValue)
    (price plans : ℕ) (feeds : List (Option S)) (batch : ℕ) (table : TableValue) (logs : List FeedLog) : Type 0 where
  pub network : table.network ≡ net
  pub start : table.start ≡ rows
  pub penalty : table.penalty ≡ price
  pub is_table : IsTable table
  pub answers : AnswersFeeds left is_sound feeds batch (day_desk net rows price plans) (table_desk plans table) logs

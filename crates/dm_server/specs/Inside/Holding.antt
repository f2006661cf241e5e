-- What the calls do to a table that is held.
use Rattle.std.specs.Prelude.{ℕ, ◌≡◌, [], ◌∷◌, ◌++◌, length}
use Rattle.dm_rows.specs.declared.messages.Entry.{Entry}
use Rattle.dm_rows.specs.History.{IsLegal}
use Rattle.dm_table.specs.Value.{TableValue}
use Rattle.dm_server.specs.Answers.{base_of}

-- one entry more, with this number, and the history is legal
pub record Gains (before now : TableValue) (entry : Entry) (n : ℕ) : Type 0 where
  pub base : base_of now ≡ base_of before
  pub gained : now.history ≡ before.history ++ entry ∷ []
  pub number : n ≡ length now.history
  pub legal : IsLegal now.network now.start now.history

-- no entry more
pub record Stays (before now : TableValue) : Type 0 where
  pub base : base_of now ≡ base_of before
  pub history : now.history ≡ before.history

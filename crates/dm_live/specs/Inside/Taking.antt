-- Activities that an order takes up beside those that it holds.
use Rattle.std.specs.Prelude.{ℕ, ◌≡◌, ◌≢◌, ◌<◌, true, List, length, slice_index}
use Rattle.dm_network.specs.Net.{Net, activity_at}
use Rattle.dm_network.specs.Held.{is_held}
use Rattle.dm_order.specs.Value.{OrderValue}
use Rattle.dm_order.specs.Orders.{IsOrderOf}
use Rattle.dm_settle.specs.Constraints.{ConstraintsValue}

-- Of the first n activities of the row out of an event those are held that the constraints hold; nothing else is held besides.
pub record HasTaken (net : Net) (given : ConstraintsValue) (event : ℕ) (row : List ℕ) (n : ℕ) (before now : OrderValue) : Type 0 where
  pub ordered : IsOrderOf net now
  pub cycle : now.cycle ≡ before.cycle
  pub fewer : (b : ℕ) → b < length net.activities → is_held now.held b ≡ true → is_held given.held b ≡ true
  pub taken : (k : ℕ) → k < n → is_held given.held (slice_index row k) ≡ true → is_held now.held (slice_index row k) ≡ true
  pub others : (b : ℕ) → (activity_at net b).tail ≢ event → is_held now.held b ≡ is_held before.held b

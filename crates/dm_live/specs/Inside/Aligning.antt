-- An order that is brought to hold what constraints hold.
use Rattle.std.specs.Prelude.{ℕ, ◌≡◌, ◌<◌, ◌≤◌, true, length}
use Rattle.dm_network.specs.Net.{Net}
use Rattle.dm_network.specs.Held.{is_held}
use Rattle.dm_order.specs.Value.{OrderValue}
use Rattle.dm_order.specs.Orders.{IsOrderOf}
use Rattle.dm_settle.specs.Constraints.{ConstraintsValue}

-- the order holds the activities that the constraints hold
abbrev pub HoldAlike : Net → OrderValue → ConstraintsValue → Type 0
HoldAlike net order given = (a : ℕ) → a < length net.activities → is_held order.held a ≡ is_held given.held a

-- an order that holds of the activities before one only such as the constraints hold
pub record HoldsNoOthersBefore (net : Net) (order : OrderValue) (given : ConstraintsValue) (n : ℕ) : Type 0 where
  pub ordered : IsOrderOf net order
  pub fewer : (b : ℕ) → b < n → is_held order.held b ≡ true → is_held given.held b ≡ true

-- an order that holds of the activities before one those that the constraints hold, and from it on no others
pub record HoldsAlikeBefore (net : Net) (order : OrderValue) (given : ConstraintsValue) (n : ℕ) : Type 0 where
  pub ordered : IsOrderOf net order
  pub before : (b : ℕ) → b < n → is_held order.held b ≡ is_held given.held b
  pub behind : (b : ℕ) → n ≤ b → b < length net.activities → is_held order.held b ≡ true → is_held given.held b ≡ true

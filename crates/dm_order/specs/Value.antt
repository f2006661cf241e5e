-- What contracts see of an order.
use Rattle.std.specs.Prelude.{ℕ, Bool, List}

-- the events in their order, the place of each event there, whether each activity is held, and, after an addition that was
-- refused, the activities of the cycle that it would close
pub record OrderValue : Type 0 where
  pub order : List ℕ
  pub ranks : List ℕ
  pub held : List Bool
  pub cycle : List ℕ

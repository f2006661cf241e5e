-- A priced timetable that is held to the relaxed problem of a path of decisions.
use Rattle.std.specs.Prelude.{ℕ, ◌≡◌, ◌<◌, List, length, slice_index}
use Rattle.dm_live.specs.Live.{NoneFixed}
use Rattle.dm_network.specs.Net.{Net}
use Rattle.dm_network.specs.Held.{is_held}
use Rattle.dm_rows.specs.declared.messages.Decision.{Decision}
use Rattle.dm_rows.specs.Decide.{with_decisions}
use Rattle.dm_rows.specs.Relax.{is_relaxed_active, is_relaxed_lost}
use Rattle.dm_rows.specs.Rows.{RowsValue}
use Rattle.dm_rows.specs.Timetable.{floor_of}
use Rattle.dm_priced.specs.Priced.{PricedValue, IsPriced, FollowsPrice}

-- The activities that bind in the relaxed problem are held, no event is fixed, floors, spans, passed and cancelled events are those
-- of the rows with the path's decisions set, and the lost changes that the path decides, or that are not free, are charged for.
pub record Evaluates (net : Net) (rows : RowsValue) (path : List Decision) (priced : PricedValue) : Type 0 where
  pub is_priced : IsPriced net priced
  pub none_fixed : NoneFixed priced.live.fixed
  pub held : (a : ℕ) → a < length net.activities → is_held priced.live.given.held a ≡ is_relaxed_active net rows path a
  pub floors : (i : ℕ) → i < length net.events → slice_index priced.live.given.floors i ≡ floor_of net (with_decisions net rows path) i
  pub price : FollowsPrice net (with_decisions net rows path) (is_relaxed_lost net rows path) priced

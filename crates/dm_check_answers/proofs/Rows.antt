-- Rows after so many entries: their times and cost, and rows that have no least timetable.
use Rattle.std.proofs.Common.{◌≡◌, ℕ, List, sym, subst}
use Rattle.dm_base.specs.declared.ids.EventId.{EventId}
use Rattle.dm_network.specs.Net.{Net}
use Rattle.dm_network.specs.Start.{IsNetwork}
use Rattle.dm_rows.specs.declared.messages.Entry.{Entry}
use Rattle.dm_rows.specs.Active.{is_active, HasNoCycle}
use Rattle.dm_rows.specs.Rows.{RowsValue}
use Rattle.dm_rows.specs.Timetable.{IsLeast}
use Rattle.dm_rows.proofs.AsGraph.{active_enter_no_passed}
use Rattle.dm_rows.proofs.Holding.{held_is_met_exactly_without_cycle}
use Rattle.dm_cert.specs.Answers.{Setting, rows_after, IsTimeAt, IsCostAt}

pub none_least : (net : Net) (rows : RowsValue) → IsNetwork net → (HasNoCycle net rows → ⊥) → (times : List ℕ) → IsLeast net rows times → ⊥
none_least net rows network cyclic times least =
    cyclic ((held_is_met_exactly_without_cycle net rows (is_active net rows) network (active_enter_no_passed net rows)).0 (times, least.meets))

module _ (s : Setting) (history : List Entry) (n : ℕ) (net : Net) (rows : RowsValue) (net_is : s.net ≡ net) (are : rows ≡ rows_after s history n) where
  back : (P : Net → RowsValue → Type 0) → P s.net (rows_after s history n) → P net rows
  back P p = subst (λ (r : RowsValue). P net r) (sym are) (subst (λ (m : Net). P m (rows_after s history n)) net_is p)

  module _ (network : IsNetwork net) (cyclic : HasNoCycle net rows → ⊥) where
    pub no_time : (event : EventId) (time : ℕ) → IsTimeAt s history n event time → ⊥
    no_time event time is = none_least net rows network cyclic is.times (back (λ m r. IsLeast m r is.times) is.least)

    pub no_cost : (cost : ℕ) → IsCostAt s history n cost → ⊥
    no_cost cost is = none_least net rows network cyclic is.costs.times (back (λ m r. IsLeast m r is.costs.times) is.costs.least)

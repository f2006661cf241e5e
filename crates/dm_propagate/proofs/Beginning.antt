-- Flags that are set one after another, where none was.
use Rattle.std.proofs.Common.{◌≡◌, ℕ, ◌+◌, ◌<◌, Bool, true, false, List, length, Option, Some, None, refl, sym, ap, ◌∙◌, inl, inr, arith, slice_index, get_or-set_same, get_or-set_other}
use Rattle.std.specs.Prelude.{slice_set, is_some, unwrap_or, max}
use Rattle.std.proofs.lemmas.Bool.{cases_eq}
use Rattle.dm_graph.proofs.Transfers.{cycle_carries}
use Rattle.dm_network.specs.Net.{Net}
use Rattle.dm_network.specs.Held.{is_held, arcs_of}
use Rattle.dm_live.specs.Live.{LiveValue, IsLive, NoneFixed, IsEnteredByNone, HasHeldCycle, RefusesLive}
use Rattle.dm_order.specs.Refuse.{HasCycle, RefusesOrder}
use Rattle.dm_order.specs.declared.faults.OrderFault.{OrderFault}
use Rattle.dm_order.specs.declared.faults.OrderFault.TheVariants.{Cyclic, OutOfMemory}
use Rattle.dm_rows.specs.Active.{has_passed, active_arcs}
use Rattle.dm_rows.specs.Rows.{RowsValue, passed_at}
use Rattle.dm_rows.specs.Timetable.{floor_of, planned_time}
use Rattle.dm_rows.proofs.AsGraph.{head_is_free}
use Rattle.dm_settle.specs.Constraints.{ConstraintsValue}
use Rattle.dm_times.specs.Constraints.{AreConstraintsOf}
use Rattle.dm_propagate.specs.Engine.{FollowsRows}
use Rattle.dm_propagate.specs.Inside.Beginning.{AreFlaggedBefore, IsFixedBefore, NoneFlagged}
use Rattle.dm_propagate.proofs.HeldLemmas.{set_on, set_off}

pub none_flagged : (p : ℕ → Bool) (flags : List Bool) → NoneFlagged flags → AreFlaggedBefore p 0 flags
none_flagged p flags none = record { before = λ k lt. absurd (omega arith); behind = λ k past. none k }

module _ (p : ℕ → Bool) (n : ℕ) (flags : List Bool) (had : AreFlaggedBefore p n flags) where
  pub flagged_one : (now : List Bool) → n < length flags → p n ≡ true → now ≡ slice_set flags n true → AreFlaggedBefore p (n + 1) now
  flagged_one now below passes is = record {
    before = λ k lt. ap (λ (f : List Bool). is_held f k) is ∙ elim (cases_eq k n) [
      | inl same ↦ set_on flags n k true same below ∙ sym passes ∙ ap p (sym same)
      | inr other ↦ set_off flags n k true other ∙ had.before k (omega arith)
    ];
    behind = λ k past. ap (λ (f : List Bool). is_held f k) is ∙ set_off flags n k true (λ same. absurd (omega arith)) ∙ had.behind k (omega arith);
  }

  pub flagged_not : p n ≡ false → AreFlaggedBefore p (n + 1) flags
  flagged_not fails = record {
    before = λ k lt. elim (cases_eq k n) [
      | inl same ↦ had.behind k (omega arith) ∙ sym fails ∙ ap p (sym same)
      | inr other ↦ had.before k (omega arith)
    ];
    behind = λ k past. had.behind k (omega arith);
  }

-- a timetable that is held to rows, of which no event is fixed
pub none_fixed : (net : Net) (rows : RowsValue) (live : LiveValue) → IsLive net live → FollowsRows net rows live.given → NoneFixed live.fixed → IsFixedBefore net rows 0 live
none_fixed net rows live is follows none = record { live = is; follows = follows; fixed = none_flagged (has_passed rows) live.fixed none }

module _ (net : Net) (rows : RowsValue) (i : ℕ) (live : LiveValue) (had : IsFixedBefore net rows i live) where
  pub fixed_not : has_passed rows i ≡ false → IsFixedBefore net rows (i + 1) live
  fixed_not fails = record { live = had.live; follows = had.follows; fixed = flagged_not (has_passed rows) i live.fixed had.fixed fails }

  -- nothing that is held enters an event that has passed
  pub none_enters : (time : ℕ) → passed_at rows i ≡ Some time → IsEnteredByNone net live.given.held i
  none_enters time passed a lt holds head =
      let free : passed_at rows i ≡ None = ap (passed_at rows) (sym head) ∙ head_is_free net rows a (sym (had.follows.held a lt) ∙ holds) in
      absurd cc

  -- it is fixed at its time, which is its floor
  pub fixed_one : (time : ℕ) (now : LiveValue) → i < length net.events → passed_at rows i ≡ Some time → IsLive net now →
      now.given ≡ record live.given { floors = slice_set live.given.floors i time } → now.fixed ≡ slice_set live.fixed i true → IsFixedBefore net rows (i + 1) now
  fixed_one time now below passed is given_is fixed_are =
      let floors = had.live.sized.floors in
      let many = had.live.as_many_fixed in
      let floor : floor_of net rows i ≡ time = ap (λ (o : Option ℕ). unwrap_or o (max (planned_time net rows i) rows.clock)) passed in
      record {
        live = is;
        follows = record {
          held = λ a lt. ap (λ (g : ConstraintsValue). is_held g.held a) given_is ∙ had.follows.held a lt;
          floors = λ j lt. ap (λ (g : ConstraintsValue). slice_index g.floors j) given_is ∙ elim (cases_eq j i) [
            | inl same ↦ ap (slice_index (slice_set live.given.floors i time)) same ∙ get_or-set_same live.given.floors i time 0 (omega arith)
                ∙ sym floor ∙ ap (floor_of net rows) (sym same)
            | inr other ↦ get_or-set_other live.given.floors i j time 0 other ∙ had.follows.floors j lt
          ];
          spans = λ a lt. ap (λ (g : ConstraintsValue). slice_index g.spans a) given_is ∙ had.follows.spans a lt;
        };
        fixed = flagged_one (has_passed rows) i live.fixed had.fixed now.fixed (omega arith) (ap is_some passed) fixed_are;
      }

-- a cycle of what constraints hold by rows is one of the rows
cycle_by_rows : (net : Net) (rows : RowsValue) (given : ConstraintsValue) → AreConstraintsOf net rows given → HasHeldCycle net given → HasCycle net rows
cycle_by_rows net rows given are cyclic = record {
  cycle = cyclic.cycle;
  is_cycle = cycle_carries (arcs_of net (is_held given.held)) (active_arcs net rows)
      (λ a binds. record {
        binds = record { is_arc = binds.is_arc; is_held = sym (are.held a binds.is_arc) ∙ binds.is_held; from_event = binds.from_event; to_event = binds.to_event };
        same_tail = refl;
        same_head = refl;
      }) cyclic.cycle cyclic.is_cycle;
}

pub refused_by_rows : (net : Net) (rows : RowsValue) (given : ConstraintsValue) (fault : OrderFault) → AreConstraintsOf net rows given →
    RefusesLive net given fault → RefusesOrder net rows fault
refused_by_rows net rows given Cyclic are refused = cycle_by_rows net rows given are refused
refused_by_rows net rows given OutOfMemory are refused = tt

-- constraints that hold what is active are those of the rows
pub follows_constraints : (net : Net) (rows : RowsValue) (given now : ConstraintsValue) → AreConstraintsOf net rows given → now ≡ given → FollowsRows net rows now
follows_constraints net rows given now are is = record {
  held = λ a lt. ap (λ (g : ConstraintsValue). is_held g.held a) is ∙ are.held a lt;
  floors = λ i lt. ap (λ (g : ConstraintsValue). slice_index g.floors i) is ∙ are.floors i lt;
  spans = λ a lt. ap (λ (g : ConstraintsValue). slice_index g.spans a) is ∙ are.spans a lt;
}

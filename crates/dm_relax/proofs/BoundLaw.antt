-- The relaxed cost is a bound, and a completion reaches it.
use Rattle.std.proofs.Common.{ℕ, ◌≤◌, List, sym, subst}
use Rattle.std.specs.Prelude.{Contains, All}
use Rattle.std.proofs.lemmas.List.Elements.{All-contains, Contains-get_or}
use Rattle.dm_network.specs.Net.{Net}
use Rattle.dm_rows.specs.declared.messages.Decision.{Decision}
use Rattle.dm_rows.specs.Rows.{RowsValue}
use Rattle.dm_rows.specs.Cost.{Costs, cost_of}
use Rattle.dm_rows.specs.Decide.{with_decisions}
use Rattle.dm_tree.specs.Relaxed.{RelaxedCosts, relaxed_cost_of}
use Rattle.dm_relax.specs.Complete.{completion_of}
use Rattle.dm_relax.specs.Laws.{Holds, RelaxedCostIsABound}
use Rattle.dm_paths.proofs.Setting.{HasDecision, DiffersInDecisions, KeepsLocked, differs_in_none, differs_with, locks_of, has_each}
use Rattle.dm_relax.proofs.Bounding.{costs_no_more, relaxed_has_no_cycle}
use Rattle.dm_relax.proofs.Completion.{completion_decides, completion_holds, completion_is_list}
use Rattle.dm_relax.proofs.Completed.{completed_least, completed_has_no_cycle, completed_costs}

pub all_from : {X : Type 0} (P : X → Type 0) (xs : List X) → ((x : X) → Contains xs x → P x) → All P xs
all_from P xs each k d lt = each _ (Contains-get_or xs k d lt)

module _ (net : Net) (rows : RowsValue) (path v : List Decision) (h : Holds net rows path v) where
  over : DiffersInDecisions rows (with_decisions net rows v)
  over = differs_with net rows rows v (differs_in_none rows)

  locks_path : KeepsLocked rows (with_decisions net rows path)
  locks_path = locks_of net h.network rows h.sized path h.is_path.free

  locks_v : KeepsLocked rows (with_decisions net rows v)
  locks_v = locks_of net h.network rows h.sized v h.are_choices.free

  has_path : (d : Decision) → Contains path d → HasDecision net (with_decisions net rows path) d
  has_path = has_each net h.network rows h.sized path h.is_path

  has_v : (d : Decision) → Contains path d → HasDecision net (with_decisions net rows v) d
  has_v d c = has_each net h.network rows h.sized v h.are_choices d (All-contains (Contains v) path d h.holds c)

  pub bound : (penalty relaxed cost : ℕ) → RelaxedCosts net rows path penalty relaxed → Costs net (with_decisions net rows v) penalty cost → relaxed ≤ cost
  bound penalty relaxed cost r c =
      let le : relaxed_cost_of net rows path r.times penalty ≤ cost_of net (with_decisions net rows v) c.times penalty =
      costs_no_more net h.network rows path (with_decisions net rows v) over locks_path locks_v has_path has_v r.times c.times r.least c.least penalty in
      subst (λ n. relaxed ≤ n) (sym c.cost) (subst (λ n. n ≤ cost_of net (with_decisions net rows v) c.times penalty) (sym r.cost) le)

pub relaxed_cost_is_a_bound : RelaxedCostIsABound
relaxed_cost_is_a_bound =
    record {
      bound = λ net rows path v penalty relaxed cost h r c. bound net rows path v h penalty relaxed cost r c;
      no_cycle = λ net rows path v h none.
          relaxed_has_no_cycle net h.network rows path (with_decisions net rows v) (over net rows path v h) (locks_path net rows path v h) (locks_v net rows path v h)
          (has_path net rows path v h) (has_v net rows path v h) none;
      completion = λ net rows path x network sized list nothing.
          let ds : List Decision = completion_of net rows path x in
          let s : RowsValue = with_decisions net rows ds in
          let over_s = differs_with net rows rows ds (differs_in_none rows) in
          let locks_s = locks_of net network rows sized ds (completion_is_list net network rows sized path x list).free in
          let has_all = has_each net network rows sized ds (completion_is_list net network rows sized path x list) in
          record {
            decides = completion_decides net network rows sized path x list;
            holds = all_from (Contains ds) path (completion_holds net network rows sized path x list);
            no_cycle = completed_has_no_cycle net network rows sized path x list nothing s over_s locks_s has_all;
            least = completed_least net network rows sized path x list nothing s over_s locks_s has_all;
            cost = completed_costs net network rows sized path x list nothing s over_s locks_s has_all;
          };
    }

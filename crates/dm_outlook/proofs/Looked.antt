-- What was planned at an entry and carried over, put together.
use Rattle.std.proofs.Common.{◌≡◌, ℕ, List, length, Option, None, Some, refl, ap, subst, ◌∙◌}
use Rattle.dm_network.specs.Net.{Net}
use Rattle.dm_rows.specs.declared.messages.Entry.{Entry}
use Rattle.dm_rows.specs.declared.rows.Snapshot.{Snapshot}
use Rattle.dm_rows.specs.History.{rows_at}
use Rattle.dm_rows.specs.Rows.{RowsValue, IsSized}
use Rattle.dm_network.specs.Start.{IsNetwork}
use Rattle.dm_parts.specs.declared.kinds.AnyPlan.{AnyPlan}
use Rattle.dm_parts.specs.declared.kinds.AnyPlan.TheVariants.{Whole, ByParts}
use Rattle.dm_parts.specs.Kinds.{chosen_of}
use Rattle.dm_desk.specs.declared.searches.Search.{Search}
use Rattle.dm_desk.specs.declared.searches.Search.TheVariants.{Plan as ForPlan, Solve as ForParts}
use Rattle.dm_stretch.specs.Rebasing.{DecideOnce}
use Rattle.dm_stretch.proofs.Optimal.{window_plan_over, window_solution_over, window_plans_decide_once}
use Rattle.dm_stretch.specs.declared.thinning.Minimal.{Minimal}
use Rattle.dm_stretch.specs.declared.windows.Window.{Window}
use Rattle.dm_outlook.specs.declared.outlook.Carried.{Carried}
use Rattle.dm_outlook.specs.Outlooks.{IsCarried, IsMinimalFor, IsOutlook, IsOver, PlansWindow, newest}

snapshot_is : (s : Snapshot) (entry : ℕ) (rows : RowsValue) → s.entry ≡ entry → s.rows ≡ rows → s ≡ record { entry = entry; rows = rows }
snapshot_is s entry rows p q = ap (λ v. record s { entry = v }) p ∙ ap (λ v. record s { entry = entry; rows = v }) q

-- the choices of a plan of either kind are decisions over the rows, none twice, and cost what it says
module _ (net : Net) (network : IsNetwork net) (rows : RowsValue) (sized : IsSized net rows) (penalty : ℕ) (window : Window) where
  pub plan_over : (asked : Search) (plan : AnyPlan) → PlansWindow net rows penalty window asked plan → IsOver net rows penalty plan
  plan_over (ForPlan budget) (Whole plan) is = window_plan_over net rows penalty window budget plan (record { network = network; sized = sized; is = is })
  plan_over (ForPlan budget) (ByParts plan) is = absurd is
  plan_over (ForParts budget) (Whole plan) is = absurd is
  plan_over (ForParts budget) (ByParts plan) is = window_solution_over net rows penalty window budget plan (record { network = network; sized = sized; is = is.0 })

  pub decide_once : (asked : Search) (plan : AnyPlan) → PlansWindow net rows penalty window asked plan → DecideOnce (chosen_of plan).choices
  decide_once (ForPlan budget) (Whole plan) is = window_plans_decide_once.plans net rows penalty window budget plan (record { network = network; sized = sized; is = is })
  decide_once (ForPlan budget) (ByParts plan) is = absurd is
  decide_once (ForParts budget) (Whole plan) is = absurd is
  decide_once (ForParts budget) (ByParts plan) is = window_plans_decide_once.solutions net rows penalty window budget plan (record { network = network; sized = sized; is = is.0 })

module _ (net other : Net) (start rows : RowsValue) (penalty given : ℕ) (history : List Entry) (window : Window) (asked : Search) (most : Option ℕ) (now : Snapshot) (plan : AnyPlan) (minimal : Option Minimal) where
  -- what is planned over rows, told of the network, the penalty and the rows that these are
  planned : (before after : RowsValue) → other ≡ net → given ≡ penalty → before ≡ after → PlansWindow other before given window asked plan → PlansWindow net after penalty window asked plan
  planned before after same price then true =
      subst (λ (n : Net). PlansWindow n after penalty window asked plan) same
      (subst (λ (p : ℕ). PlansWindow other after p window asked plan) price
      (subst (λ (r : RowsValue). PlansWindow other r given window asked plan) then true))

  thinned : (before after : RowsValue) → other ≡ net → given ≡ penalty → before ≡ after → IsMinimalFor other before given plan most minimal → IsMinimalFor net after penalty plan most minimal
  thinned before after same price then is =
      subst (λ (n : Net). IsMinimalFor n after penalty plan most minimal) same
      (subst (λ (p : ℕ). IsMinimalFor other after p plan most minimal) price
      (subst (λ (r : RowsValue). IsMinimalFor other r given plan most minimal) then is))

  pub looked_now : other ≡ net → given ≡ penalty → now.entry ≡ length history → now.rows ≡ rows → rows ≡ rows_at net start history (length history) →
      PlansWindow other now.rows given window asked plan → IsMinimalFor other now.rows given plan most minimal →
      IsOutlook net start penalty history window asked None most (record { entry = now.entry; plan = plan; minimal = minimal; carried = None })
  looked_now same price last is replayed true kept =
      record {
        entry = last;
        plan = planned now.rows (rows_at net start history (length history)) same price (is ∙ replayed) true;
        minimal = thinned now.rows (rows_at net start history (length history)) same price (is ∙ replayed) kept;
        carried = tt;
      }

  module _ (at : ℕ) (before : RowsValue) (carried : Carried) where
    pub looked : other ≡ net → given ≡ penalty → before ≡ rows_at net start history at → now.entry ≡ length history → now.rows ≡ rows →
        rows ≡ rows_at net start history (length history) → PlansWindow other before given window asked plan → IsMinimalFor other before given plan most minimal →
        IsCarried other now given (chosen_of plan).choices carried →
        IsOutlook net start penalty history window asked (Some at) most (record { entry = at; plan = plan; minimal = minimal; carried = Some carried })
    looked same price then last is replayed true kept told =
        record {
          entry = refl;
          plan = planned before (rows_at net start history at) same price then true;
          minimal = thinned before (rows_at net start history at) same price then kept;
          carried =
              subst (λ (n : Net). IsCarried n (newest net start history) penalty (chosen_of plan).choices carried) same
              (subst (λ (p : ℕ). IsCarried other (newest net start history) p (chosen_of plan).choices carried) price
              (subst (λ (s : Snapshot). IsCarried other s given (chosen_of plan).choices carried)
              (snapshot_is now (length history) (rows_at net start history (length history)) last (is ∙ replayed)) told));
        }

-- What a guide leads to is kept, and no choices to which it leads cost less.
use Rattle.std.proofs.Common.{◌≡◌, ℕ, ◌≤◌, List, [], ◌++◌, length, drop, Some, None, refl, ap, sym, subst, ◌∙◌, arith}
use Rattle.std.proofs.lemmas.List.{drop_at}
use Rattle.dm_network.specs.Net.{Net}
use Rattle.dm_network.specs.Start.{IsNetwork}
use Rattle.dm_rows.specs.declared.messages.Decision.{Decision}
use Rattle.dm_rows.specs.Active.{HasNoCycle}
use Rattle.dm_rows.specs.Cost.{Costs}
use Rattle.dm_rows.specs.Decide.{IsChoiceList, with_decisions}
use Rattle.dm_rows.specs.Relax.{is_relaxed_active}
use Rattle.dm_rows.specs.Rows.{RowsValue}
use Rattle.dm_tree.specs.Plans.{Task}
use Rattle.dm_tree.specs.Relaxed.{HasNoRelaxedCycle, IsRelaxedLeast, relaxed_cost_of}
use Rattle.dm_tree.proofs.Shown.{one_least}
use Rattle.dm_relax.specs.Relaxed.{first_violated}
use Rattle.dm_task.specs.Posed.{task_beside, IsPosed}
use Rattle.dm_evaluate.specs.Evaluator.{EvaluatorValue}
use Rattle.dm_traverse.specs.Moving.{IsOver, GoesAlong}
use Rattle.dm_traverse.specs.Steps.{IsOutcome}
use Rattle.dm_traverse.proofs.Fronts.{all_made}
use Rattle.dm_traverse.specs.declared.steps.Outcome.{Outcome}
use Rattle.dm_traverse.specs.declared.steps.Outcome.TheVariants.{Cycle, Pruned, Solved, Branch}
use Rattle.dm_team.specs.Found.{AreKept}
use Rattle.dm_team.specs.Led.{LeadsTo}
use Rattle.dm_team.specs.Inside.Planning.{IsBetterBy}
use Rattle.dm_team.proofs.Begun.{own_kept}
use Rattle.dm_team.proofs.Outcomes.{solved_along}

-- the rows' own choices are kept
pub rows_are_kept : (net : Net) (rows : RowsValue) (penalty : ℕ) (base : List Decision) (budget own : ℕ) → HasNoCycle net rows → Costs net rows penalty own
    → (choices : List Decision) (cost : ℕ) → choices ≡ [] → cost ≡ own → AreKept (task_beside net rows penalty base budget) own choices cost
rows_are_kept net rows penalty base budget own no_cycle of_rows choices cost k c =
    subst (λ (ds : List Decision). AreKept (task_beside net rows penalty base budget) own ds cost) (sym k)
    (subst (AreKept (task_beside net rows penalty base budget) own []) (sym c) (own_kept net rows penalty base budget [] own no_cycle of_rows))

module _ (net : Net) (network : IsNetwork net) (rows : RowsValue) (penalty : ℕ) (base : List Decision) (budget : ℕ) (posed : IsPosed net rows penalty base budget) where
  abbrev beside : Task
  beside = task_beside net rows penalty base budget

  same_kept : (own : ℕ) (choices kept : List Decision) (cost least : ℕ) → AreKept beside own choices cost → kept ≡ choices → least ≡ cost → AreKept beside own kept least
  same_kept own choices kept cost least is k c =
      subst (λ (ds : List Decision). AreKept beside own ds least) (sym k) (subst (AreKept beside own choices) (sym c) is)

  pub led_kept : (e : EvaluatorValue) → IsOver beside e → (o : Outcome) (before kept : List Decision) (least cost : ℕ) → IsOutcome net rows e.path penalty least o
      → IsBetterBy before least o kept cost → (own : ℕ) → AreKept beside own before least → AreKept beside own kept cost
  led_kept e over Cycle before kept least cost is best own was = same_kept own before kept least cost was best.0 best.1
  led_kept e over (Pruned c) before kept least cost is best own was = same_kept own before kept least cost was best.0 best.1
  led_kept e over (Solved c choices) before kept least cost is best own was =
      same_kept own choices kept c cost (solved_along net network rows penalty base budget [] posed e own least c choices over is was.no_dearer) best.0 best.1
  led_kept e over (Branch c choice) before kept least cost is best own was = same_kept own before kept least cost was best.0 best.1

  -- what is kept then costs no more than what was kept
  pub led_cheaper : (path : List Decision) (o : Outcome) (before kept : List Decision) (least cost : ℕ) → IsOutcome net rows path penalty least o
      → IsBetterBy before least o kept cost → cost ≤ least
  led_cheaper path Cycle before kept least cost is best = omega (arith, best.1)
  led_cheaper path (Pruned c) before kept least cost is best = omega (arith, best.1)
  led_cheaper path (Solved c choices) before kept least cost is best = let less = is.less in omega (arith, best.1, less)
  led_cheaper path (Branch c choice) before kept least cost is best = omega (arith, best.1)

  -- the least times of a path cost one sum
  one_relaxed : (path : List Decision) (x y : List ℕ) (a b : ℕ) → IsRelaxedLeast net rows path x → IsRelaxedLeast net rows path y
      → a ≡ relaxed_cost_of net rows path x penalty → b ≡ relaxed_cost_of net rows path y penalty → a ≡ b
  one_relaxed path x y a b p q e f =
      e ∙ (ap (λ z. relaxed_cost_of net rows path z penalty) (one_least net (with_decisions net rows path) (is_relaxed_active net rows path) x y p q) ∙ sym f)

  -- and no more than the choices to which the path leads
  cheapest_at : (path : List Decision) (o : Outcome) (before kept : List Decision) (least cost c : ℕ) → LeadsTo beside path c → IsOutcome net rows path penalty least o
      → IsBetterBy before least o kept cost → cost ≤ c
  cheapest_at path Cycle before kept least cost c leads is best = absurd (leads.no_cycle is.cycle is.is_cycle)
  cheapest_at path (Pruned d) before kept least cost c leads is best =
      let low = is.no_less in
      omega (arith, best.1, low, one_relaxed path is.times leads.times d c is.least leads.least is.cost leads.cost)
  cheapest_at path (Solved d choices) before kept least cost c leads is best =
      omega (arith, best.1, one_relaxed path is.times leads.times d c is.least leads.least is.cost leads.cost)
  cheapest_at path (Branch d choice) before kept least cost c leads is best =
      let same = one_least net (with_decisions net rows path) (is_relaxed_active net rows path) is.times leads.times is.least leads.least in
      let none : Some choice ≡ None = sym is.first ∙ (ap (first_violated net rows path) same ∙ leads.nothing) in
      absurd (let n = none in cc)

  pub cheapest_along : (whole behind at : List Decision) (o : Outcome) (before kept : List Decision) (least cost : ℕ) → behind ≡ drop (length base) whole
      → GoesAlong net rows base behind at → IsOutcome net rows at penalty least o → IsBetterBy before least o kept cost
      → (c : ℕ) → LeadsTo beside whole c → cost ≤ c
  cheapest_along whole behind at o before kept least cost shown along is best c leads =
      let rest : behind ≡ leads.begins.rest = shown ∙ (ap (drop (length base)) leads.begins.is ∙ drop_at base leads.begins.rest (length base) refl) in
      let joined : whole ≡ base ++ behind = leads.begins.is ∙ ap (λ xs. base ++ xs) (sym rest) in
      let list : IsChoiceList net rows (base ++ behind) = subst (IsChoiceList net rows) joined leads.list in
      let none : HasNoRelaxedCycle net rows (base ++ behind) = subst (HasNoRelaxedCycle net rows) joined leads.no_cycle in
      let made : at ≡ whole = all_made net network rows posed.sized base behind at list none along ∙ sym joined in
      cheapest_at whole o before kept least cost c leads (subst (λ (p : List Decision). IsOutcome net rows p penalty least o) made is) best

-- What each step of a worker keeps.
use Rattle.std.proofs.Common.{◌≡◌, ◌⊎◌, ℕ, ◌≤◌, ◌<◌, List, ◌++◌, min, refl, ap, sym, ◌∙◌, subst, arith, inl, inr, ⊎_elim, ne_eqb, eqb}
use Rattle.std.specs.Prelude.{Option, Some}
use Rattle.std.proofs.lemmas.Bool.{cases_lt}
use Rattle.atomic_table.specs.Seated.{TableId}
use Rattle.dm_network.specs.Net.{Net}
use Rattle.dm_network.specs.Start.{IsNetwork}
use Rattle.dm_rows.specs.declared.messages.Choice.{Choice}
use Rattle.dm_rows.specs.declared.messages.Decision.{Decision}
use Rattle.dm_rows.specs.Cost.{Costs}
use Rattle.dm_rows.specs.Rows.{RowsValue}
use Rattle.dm_tree.specs.declared.forms.Node.{Node}
use Rattle.dm_tree.specs.declared.forms.Node.TheVariants.{Cycle, Bound, Open}
use Rattle.dm_task.specs.declared.guides.Hint.{Hint}
use Rattle.dm_task.specs.Posed.{task_beside, IsPosed}
use Rattle.dm_bound.specs.Words.{HandValue, nothing_looked}
use Rattle.dm_traverse.specs.declared.steps.Outcome.{Outcome}
use Rattle.dm_traverse.specs.declared.steps.Outcome.TheVariants.{Cycle as CycleFound, Pruned, Solved, Branch}
use Rattle.dm_team.specs.declared.working.Worker.{Worker}
use Rattle.dm_team.specs.Nodes.{GuidedTask, branching_at, IsChosen, IsNode}
use Rattle.dm_team.specs.Expanding.{IsSeenBy, having_looked, limit_of}
use Rattle.dm_team.specs.Accounts.{Path, Weight}
use Rattle.dm_team.specs.Found.{IsShown, IsEnd, AreKept}
use Rattle.dm_team.specs.Inside.Working.{IsAtWork, nothing, only}
use Rattle.dm_team.specs.Inside.Workers.{IsWorking, IsHandedTo, HasGivenUp, IsBetterOf, HasBranched, HasTaken, HasFoundNone}
use Rattle.dm_team.proofs.Efforts.{looked_on, handed, left, branched, bettered, told, taken}
use Rattle.dm_team.proofs.Outcomes.{chosen_is_ordered, pruned_costs, solved_costs, branch_costs, solved_kept, branch_violates, branch_chosen}

-- a capped cost is no less than the least one, or is that which prunes nothing
pub capped_low : (best c : ℕ) → best ≤ c → (best ≤ min c nothing_looked) ⊎ (min c nothing_looked ≡ nothing_looked)
capped_low best c le = by_case (cases_lt c nothing_looked) where
  by_case : (c < nothing_looked) ⊎ (nothing_looked ≤ c) → (best ≤ min c nothing_looked) ⊎ (min c nothing_looked ≡ nothing_looked)
  by_case (inl lt) = inl (omega (arith, lt, le))
  by_case (inr ge) = inr (omega (arith, ge))

limit_below : (seen : ℕ) → seen < nothing_looked → limit_of seen ≡ seen
limit_below seen lt = let other : eqb seen nothing_looked ≡ Rattle.std.proofs.Common.false = ne_eqb seen nothing_looked (λ e. omega (arith, e, lt)) in rw other refl

module _ {F : Type 0} (task : GuidedTask) (own : ℕ) (word : TableId) (start : ℕ) (given : Weight → ℕ) where
  abbrev Work : (Weight → ℕ) → Worker F → Type 0
  Work = IsWorking task own word start given

  -- a leaf is handed in, from a worker whose hand is this
  leaf_in : (old new : Worker F) (h : HandValue) (path : Path) (n : Node) → IsAtWork task own word start given (only path) old.owner old.tallies.items h old.leaves.items old.given_up.items old.best.choices old.best.cost
      → IsNode task path → IsEnd task.task old.best.cost h.looked path n → IsHandedTo (record old { hand = h }) new path n → Work nothing new
  leaf_in old new h path n w node end put = subst (Work nothing) (sym put.same)
      (handed task own word start given old.owner old.tallies.items h old.leaves.items old.given_up.items old.best.choices old.best.cost path n new.leaves.items w node.way end put.leaves)

  -- the worker has looked at the word
  looking : (old : Worker F) (h : HandValue) (path : Path) (seen : ℕ) → h ≡ having_looked old.hand seen → Work (only path) old
      → IsAtWork task own word start given (only path) old.owner old.tallies.items h old.leaves.items old.given_up.items old.best.choices old.best.cost
  looking old h path seen is w = subst
      (λ (k : HandValue). IsAtWork task own word start given (only path) old.owner old.tallies.items k old.leaves.items old.given_up.items old.best.choices old.best.cost)
      (sym is)
      (looked_on task own word start given old.owner old.tallies.items old.hand old.leaves.items old.given_up.items old.best.choices old.best.cost (only path) seen w)

  pub none_taken : (old new : Worker F) → HasFoundNone old new → Work nothing old → Work nothing new
  none_taken old new n w = subst (Work nothing) (sym n.same)
      (subst (λ (o : _). IsAtWork task own word start given nothing o new.tallies.items old.hand old.leaves.items old.given_up.items old.best.choices old.best.cost) (sym n.owner)
      (subst (λ (ts : _). IsAtWork task own word start given nothing old.owner ts old.hand old.leaves.items old.given_up.items old.best.choices old.best.cost) (sym n.tallies) w))

  -- the path in hand is given up
  pub path_left : (old new : Worker F) (path : Path) → HasGivenUp old new path → Work (only path) old → Work nothing new
  path_left old new path g w = subst (Work nothing) (sym g.same)
      (left task own word start given old.owner old.tallies.items old.hand old.leaves.items old.given_up.items old.best.choices old.best.cost path new.given_up.items w g.given_up)

  pub path_taken : (old new : Worker F) (path : Path) → HasTaken old new path → Work nothing old → Work (only path) new
  path_taken old new path t w = subst (Work (only path)) (sym t.same)
      (taken task own word start given old.owner old.tallies.items old.hand old.leaves.items old.given_up.items old.best.choices old.best.cost path new.owner new.tallies.items w t.put t.weighs)

-- what the guide says at a path that is told by an equation
pub guide_says : (hints : List Hint) (path there : List Decision) (hint : Option Choice) (choice : Choice) → there ≡ path → hint ≡ branching_at hints there → hint ≡ Some choice
    → branching_at hints path ≡ Some choice
guide_says hints path there hint choice at says is = ap (branching_at hints) (sym at) ∙ (sym says ∙ is)

-- what was seen at a path that is told by an equation
pub seen_at : (net : Net) (rows : RowsValue) (base path there : List Decision) (penalty : ℕ) (hint : Option Choice) (old new : HandValue) (seen : ℕ) (o : Outcome) → there ≡ path
    → IsSeenBy net rows (base ++ there) penalty hint old new seen o → IsSeenBy net rows (base ++ path) penalty hint old new seen o
seen_at net rows base path there penalty hint old new seen o is h = subst (λ (p : List Decision). IsSeenBy net rows (base ++ p) penalty hint old new seen o) is h

module _ {F : Type 0} (net : Net) (network : IsNetwork net) (rows : RowsValue) (penalty : ℕ) (base : List Decision) (budget : ℕ) (hints : List Hint) (hint : Option Choice) (posed : IsPosed net rows penalty base budget)
    (own : ℕ) (of_rows : Costs net rows penalty own) (old new : Worker F) (h : HandValue) (path : Path) (seen : ℕ) (node : IsNode (record { task = task_beside net rows penalty base budget; hints = hints }) path) (word : TableId) where
  abbrev task : GuidedTask
  task = record { task = task_beside net rows penalty base budget; hints = hints }

  pub cycle_in : IsSeenBy net rows (base ++ path) penalty hint old.hand h seen CycleFound → IsHandedTo (record old { hand = h }) new path Cycle
      → (given : Weight → ℕ) (start : ℕ) → IsWorking task own word start given (only path) old → IsWorking task own word start given nothing new
  cycle_in found put given start w =
      leaf_in task own word start given old new h path Cycle (looking task own word start given old h path seen found.hand w) node
      (record { cycle = found.is.cycle; is_cycle = found.is.is_cycle }) put

  pub pruned_in : (c : ℕ) → IsSeenBy net rows (base ++ path) penalty hint old.hand h seen (Pruned c) → (seen < nothing_looked) ⊎ (own ≤ c) → IsHandedTo (record old { hand = h }) new path (Bound c)
      → (given : Weight → ℕ) (start : ℕ) → IsWorking task own word start given (only path) old → IsWorking task own word start given nothing new
  pruned_in c found why put given start w =
      let at = looking task own word start given old h path seen found.hand w in
      let looked : h.looked ≡ min old.hand.looked seen = ap (λ (k : HandValue). k.looked) found.hand in
      let shown : IsShown old.best.cost h.looked c = ⊎_elim
      (λ (lt : seen < nothing_looked). let low = found.is.no_less in let limit = limit_below seen lt in inr (omega (arith, looked, low, limit), omega (arith, looked, lt)))
      (λ (le : own ≤ c). let low = at.found.kept.no_dearer in inl (omega (arith, low, le))) why in
      leaf_in task own word start given old new h path (Bound c) at node (pruned_costs net network rows penalty base budget hints posed path (limit_of seen) c found.is, shown) put

  pub dear_in : (c : ℕ) (choice : Choice) → IsSeenBy net rows (base ++ path) penalty hint old.hand h seen (Branch c choice) → own ≤ c → IsHandedTo (record old { hand = h }) new path (Bound c)
      → (given : Weight → ℕ) (start : ℕ) → IsWorking task own word start given (only path) old → IsWorking task own word start given nothing new
  dear_in c choice found dear put given start w =
      let at = looking task own word start given old h path seen found.hand w in
      let low = at.found.kept.no_dearer in
      leaf_in task own word start given old new h path (Bound c) at node (branch_costs net network rows penalty base budget hints posed path (limit_of seen) c choice found.is, inl (omega (arith, low, dear))) put

  -- a node is given up that no cost prunes
  pub given_up_in : (c : ℕ) → IsSeenBy net rows (base ++ path) penalty hint old.hand h seen (Pruned c) → HasGivenUp (record old { hand = h }) new path
      → (given : Weight → ℕ) (start : ℕ) → IsWorking task own word start given (only path) old → IsWorking task own word start given nothing new
  given_up_in c found put given start w =
      path_left task own word start given (record old { hand = h }) new path put (looking task own word start given old h path seen found.hand w)

  -- a node below which the guide's tree does not go on is left open
  pub open_in : (c : ℕ) (choice : Choice) → IsSeenBy net rows (base ++ path) penalty hint old.hand h seen (Branch c choice) → IsHandedTo (record old { hand = h }) new path (Open c)
      → (given : Weight → ℕ) (start : ℕ) → IsWorking task own word start given (only path) old → IsWorking task own word start given nothing new
  open_in c choice found put given start w =
      let at = looking task own word start given old h path seen found.hand w in
      leaf_in task own word start given old new h path (Open c) at node (choice, branch_violates net network rows penalty base budget hints posed path (limit_of seen) c choice found.is) put

  pub branch_in : (c : ℕ) (choice : Choice) → IsSeenBy net rows (base ++ path) penalty hint old.hand h seen (Branch c choice) → c < own → branching_at hints path ≡ Some choice
      → HasBranched (record old { hand = h }) new path choice
      → (given : Weight → ℕ) (start : ℕ) → IsWorking task own word start given (only path) old → IsWorking task own word start given nothing new
  branch_in c choice found cheap hinted put given start w =
      let at = looking task own word start given old h path seen found.hand w in
      let chosen : IsChosen task path choice = branch_chosen net network rows penalty base budget hints posed path own (limit_of seen) c choice of_rows found.is cheap hinted in
      subst (IsWorking task own word start given nothing) (sym put.same)
      (branched task own word start given old.owner old.tallies.items h old.leaves.items old.given_up.items old.best.choices old.best.cost path choice new.owner at chosen
      (chosen_is_ordered net network rows penalty base budget hints posed path choice chosen) put.owner)

  pub solved_in : (c : ℕ) (choices : List Decision) (mid : Worker F) → IsSeenBy net rows (base ++ path) penalty hint old.hand h seen (Solved c choices)
      → IsBetterOf (record old { hand = h }) mid c choices → IsHandedTo mid new path (Bound c)
      → (given : Weight → ℕ) (start : ℕ) → IsWorking task own word start given (only path) old → IsWorking task own word start given nothing new
  solved_in c choices mid found better put given start w =
      let at = looked_on task own word start given old.owner old.tallies.items old.hand old.leaves.items old.given_up.items old.best.choices old.best.cost (only path) seen w in
      let low = at.found.kept.no_dearer in
      let kept : IsAtWork task own word start given (only path) old.owner old.tallies.items (having_looked old.hand seen) old.leaves.items old.given_up.items mid.best.choices mid.best.cost = ⊎_elim
      (λ (e : (mid.best ≡ old.best) × (old.best.cost ≤ c)). subst (λ (b : _). IsAtWork task own word start given (only path) old.owner old.tallies.items (having_looked old.hand seen) old.leaves.items old.given_up.items b.choices b.cost) (sym e.0) at)
      (λ (e : (mid.best.choices ≡ choices) × (mid.best.cost ≡ c) × (c < old.best.cost)).
      bettered task own word start given old.owner old.tallies.items (having_looked old.hand seen) old.leaves.items old.given_up.items old.best.choices old.best.cost (only path) mid.best.choices mid.best.cost at
      (subst (λ (k : ℕ). AreKept task.task own mid.best.choices k) (sym e.1) (subst (λ (ds : List Decision). AreKept task.task own ds c) (sym e.0)
      (solved_kept net network rows penalty base budget hints posed path own (limit_of seen) c choices node.list found.is (let less = e.2 in omega (arith, less, low)))))
      (let less = e.2 in omega (arith, less, e.1)))
      better.cheaper in
      let cheaper : mid.best.cost ≤ c = ⊎_elim
      (λ (e : (mid.best ≡ old.best) × (old.best.cost ≤ c)). let less = e.1 in omega (arith, less, ap (λ (b : _). b.cost) e.0))
      (λ (e : (mid.best.choices ≡ choices) × (mid.best.cost ≡ c) × (c < old.best.cost)). omega (arith, e.1)) better.cheaper in
      let listed = told task own word start given old.owner old.tallies.items (having_looked old.hand seen) old.leaves.items old.given_up.items mid.best.choices mid.best.cost (only path) (min c nothing_looked) kept
      (capped_low mid.best.cost c cheaper) in
      let here : IsAtWork task own word start given (only path) old.owner old.tallies.items h old.leaves.items old.given_up.items mid.best.choices mid.best.cost =
      subst (λ (k : HandValue). IsAtWork task own word start given (only path) old.owner old.tallies.items k old.leaves.items old.given_up.items mid.best.choices mid.best.cost) (sym found.hand) listed in
      let middle : IsWorking task own word start given (only path) mid = subst (IsWorking task own word start given (only path)) (sym better.same) here in
      subst (IsWorking task own word start given nothing) (sym put.same)
      (handed task own word start given mid.owner mid.tallies.items mid.hand mid.leaves.items mid.given_up.items mid.best.choices mid.best.cost path (Bound c) new.leaves.items middle node.way
      (solved_costs net network rows penalty base budget hints posed path (limit_of seen) c choices found.is, inl cheaper) put.leaves)

-- Stages of giving choices back.
use Rattle.std.specs.Prelude.{ℕ, ◌≡◌, ◌+◌, ◌-◌, ◌<◌, ◌≤◌, ◌⊎◌, List, [], ◌∷◌, Option, Some, None, All, Contains, length, map, slice_get}
use Rattle.std.specs.List.{remove}
use Rattle.dm_network.specs.Net.{Net}
use Rattle.dm_rows.specs.declared.messages.Decision.{Decision}
use Rattle.dm_rows.specs.Active.{HasNoCycle}
use Rattle.dm_rows.specs.Decide.{choice_of, with_decisions}
use Rattle.dm_rows.specs.Rows.{RowsValue}
use Rattle.dm_tree.specs.Plans.{AreSomeOf}
use Rattle.dm_stretch.specs.Minimal.{CostsSet, GivesBack}
use Rattle.dm_stretch.specs.declared.thinning.KeptChoice.{KeptChoice}
use Rattle.dm_stretch.specs.declared.thinning.Worth.{Worth}
use Rattle.dm_stretch.specs.declared.thinning.Worth.TheVariants.{Needed, Saves}

-- with the decisions the rows cost this, or have a cycle
abbrev pub IsJudged : Net → RowsValue → ℕ → List Decision → Option ℕ → Type 0
IsJudged net rows penalty decisions None = HasNoCycle net (with_decisions net rows decisions) → ⊥
IsJudged net rows penalty decisions (Some c) = CostsSet net rows penalty decisions c

-- so it is judged without the decision at each place before this one
pub record AreJudged (net : Net) (rows : RowsValue) (penalty : ℕ) (decisions : List Decision) (many : ℕ)
    (costs : List (Option ℕ)) : Type 0 where
  pub size : length costs ≡ many
  pub each : (place : ℕ) (cost : Option ℕ) → slice_get costs place ≡ Some cost → IsJudged net rows penalty (remove decisions place) cost

-- each cost is above a limit
abbrev pub ExceedEach : ℕ → List (Option ℕ) → Type 0
ExceedEach limit costs = (place c : ℕ) → slice_get costs place ≡ Some (Some c) → limit < c

-- the cost at a place is not above a limit, and none costs less
abbrev pub IsNearAt : ℕ → List (Option ℕ) → ℕ → ℕ → Type 0
IsNearAt limit costs place c = (slice_get costs place ≡ Some (Some c)) × (c ≤ limit)
    × ((other d : ℕ) → slice_get costs other ≡ Some (Some d) → c ≤ d)

-- the least cost that is not above the limit is found among those before a place, if there is one
abbrev pub Finds : ℕ → List (Option ℕ) → ℕ → Option (ℕ × ℕ) → Type 0
Finds limit costs place None = (k c : ℕ) → k < place → slice_get costs k ≡ Some (Some c) → limit < c
Finds limit costs place (Some found) = (slice_get costs found.0 ≡ Some (Some found.1)) × (found.1 ≤ limit)
    × ((k c : ℕ) → k < place → slice_get costs k ≡ Some (Some c) → found.1 ≤ c)

-- what is found is what was found before, where the cost at a place is above the limit or no less, or that cost, where it is neither
abbrev pub FindsNext : ℕ → Option (ℕ × ℕ) → ℕ → ℕ → Option (ℕ × ℕ) → Type 0
FindsNext limit before place c None = (before ≡ None) × (limit < c)
FindsNext limit before place c (Some found) =
    ((before ≡ Some found) × ((limit < c) ⊎ (found.1 ≤ c)))
    ⊎ ((found ≡ (place, c)) × (c ≤ limit) × ((b : ℕ × ℕ) → before ≡ Some b → c ≤ b.1))

-- some of the plan's choices, which cost this, once so many were given back
pub record IsThinned (net : Net) (rows : RowsValue) (penalty : ℕ) (planned : List Decision) (spent most : ℕ) (kept : List Decision)
    (c : ℕ) : Type 0 where
  pub many : ℕ
  pub given_back : GivesBack net rows penalty (spent + most) many planned kept
  pub among : All (Contains planned) kept
  pub in_order : AreSomeOf (map choice_of planned) (map choice_of kept)
  pub cost : CostsSet net rows penalty kept c
  pub near : c ≤ spent + most

-- what a decision is worth in a list that costs this, by what the others cost
abbrev pub worth_of : ℕ → Option ℕ → Worth
worth_of cost None = Needed
worth_of cost (Some others) = Saves (others - cost)

-- decisions with what each is worth
abbrev pub with_worths : ℕ → List Decision → List (Option ℕ) → List KeptChoice
with_worths cost [] costs = []
with_worths cost (d ∷ ds) [] = []
with_worths cost (d ∷ ds) (c ∷ cs) = record { decision = d; worth = worth_of cost c } ∷ with_worths cost ds cs

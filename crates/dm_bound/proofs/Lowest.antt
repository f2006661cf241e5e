-- The smallest of a start and of some costs.
use Rattle.std.proofs.Common.{◌≡◌, ◌⊎◌, ℕ, ◌≤◌, List, [], ◌∷◌, All, Contains, arith, ⊎_elim}
use Rattle.std.proofs.lemmas.List.Elements.{All-nil, All-cons, All-head, All-tail, All-contains}
use Rattle.dm_bound.specs.Words.{lowest}

-- what is at most the start and each cost is at most the smallest
pub above_lowest : (b start : ℕ) (costs : List ℕ) → b ≤ start → All (λ cost. b ≤ cost) costs → b ≤ lowest start costs
above_lowest b start [] low all = low
above_lowest b start (cost ∷ costs) low all =
    omega (arith, All-head (λ (c : ℕ). b ≤ c) cost costs all, above_lowest b start costs low (All-tail (λ (c : ℕ). b ≤ c) cost costs all))

pub lowest_start : (start : ℕ) (costs : List ℕ) → lowest start costs ≤ start
lowest_start start [] = omega arith
lowest_start start (cost ∷ costs) = omega (arith, lowest_start start costs)

pub lowest_all : (b start : ℕ) (costs : List ℕ) → b ≤ lowest start costs → All (λ cost. b ≤ cost) costs
lowest_all b start [] low = All-nil (λ (c : ℕ). b ≤ c)
lowest_all b start (cost ∷ costs) low =
    All-cons (λ (c : ℕ). b ≤ c) cost costs (omega (arith, low)) (lowest_all b start costs (omega (arith, low)))

-- and what is reached is the smallest
pub lowest_is : (b start : ℕ) (costs : List ℕ) → b ≤ start → All (λ cost. b ≤ cost) costs → (b ≡ start) ⊎ Contains costs b → b ≡ lowest start costs
lowest_is b start costs low all reached =
    let above = above_lowest b start costs low all in
    let below : lowest start costs ≤ b = ⊎_elim
    (λ (e : b ≡ start). omega (arith, e, lowest_start start costs))
    (λ (in' : Contains costs b). All-contains (λ (c : ℕ). lowest start costs ≤ c) costs b (lowest_all (lowest start costs) start costs (omega arith)) in') reached in
    omega arith

-- What keeps its time when what binds changes.
use Rattle.std.specs.Prelude.{ℕ, ◌+◌, ◌<◌, ◌≤◌, ◌⊎◌, Bool, IsTrue}

-- the floor has not fallen, or did not bind, and the time is above it
abbrev pub IsKeptAt : ℕ → ℕ → ℕ → Type 0
IsKeptAt was floor time = ((was ≤ floor) ⊎ (was < time)) × (floor ≤ time)

-- what held the head to its time holds it still, with a span that is no shorter, and what is held is met
abbrev pub IsMetAt : Bool → ℕ → Bool → ℕ → ℕ → ℕ → Type 0
IsMetAt was_held was held span from to =
    (IsTrue was_held → to ≤ from + was → IsTrue held × (was ≤ span)) × (IsTrue held → from + span ≤ to)

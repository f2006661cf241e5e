-- Counts of faults: what a call does to one, and when it has risen.
use Rattle.std.specs.Prelude.{◌⊎◌, ℕ, ◌<◌, ◌≤◌, Result, OnErr}

-- where a count stands still: the largest number of 64 bits
abbrev pub last_count : ℕ
last_count = 18446744073709551615

-- the count rose, or stands at its last value
abbrev pub HasRisen : ℕ → ℕ → Type 0
HasRisen before now = (before < now) ⊎ (last_count ≤ now)

-- the count never falls, and a call that failed has raised it
pub record Counts {T E : Type 0} (before now : ℕ) (result : Result T E) : Type 0 where
  pub later : before ≤ now
  pub failed : OnErr result (HasRisen before now)

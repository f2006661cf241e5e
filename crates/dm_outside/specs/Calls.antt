-- The calls of a form in memory, numbered from 1. Some numbers are listed: those calls fail.
use Rattle.std.specs.Prelude.{ℕ, ◌+◌, ◌<◌, ◌≤◌, List, All, Contains, if◌then◌else◌, nat_lt}
use Rattle.dm_outside.specs.Faults.{last_count}

-- the number of calls, or of those that failed, after one more: it stands at its last value
abbrev pub next_call : ℕ → ℕ
next_call made = if nat_lt made last_count then made + 1 else made

-- the next call is listed
abbrev pub IsListed : ℕ → List ℕ → Type 0
IsListed made fails = (made < last_count) × Contains fails (made + 1)

-- no later call is listed
abbrev pub NoneListed : ℕ → List ℕ → Type 0
NoneListed made fails = All (λ number. number ≤ made) fails

-- What is used up at a limit is so at a lower one.
use Rattle.std.proofs.Common.{ℕ, ◌≤◌, inl, inr, arith}
use Rattle.dm_traverse.specs.Inside.Searching.{IsUsedUp}

pub used_lower : (budget total high low c : ℕ) → low ≤ high → IsUsedUp budget total high c → IsUsedUp budget total low c
used_lower budget total high low c le (inl full) = inl full
used_lower budget total high low c le (inr dear) = inr (omega arith)

pub at_most_itself : (n : ℕ) → n ≤ n
at_most_itself n = omega arith

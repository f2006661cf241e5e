-- The protocol of a deque: what holds of its tasks and of all accounts between any two steps.
use Rattle.std.specs.Prelude.{ℕ, ◌≡◌, ◌+◌, true, false, List, [], length, All, sum_by, count_by}
use mathlib.Core.Option.{some}
use lib.ListN.{get_elem?}
use Rattle.dm_deques.specs.declared.account.Account.{Account}

module _ {T : Type 0} where
  -- the account of an owner at the start, that of a new tally, and what is left of one that was settled
  abbrev pub opening : Account T
  opening = record { puts = true; is_out = false; put = []; taken = []; lent = 0 }

  abbrev pub fresh : Account T
  fresh = record { puts = false; is_out = true; put = []; taken = []; lent = 0 }

  abbrev pub spent : Account T
  spent = record { puts = false; is_out = false; put = []; taken = []; lent = 0 }

  -- the weights of all that was put, and of all that was taken
  abbrev pub put_by : (T → ℕ) → List (Account T) → ℕ
  put_by h accounts = sum_by (λ v. sum_by h v.put) accounts

  abbrev pub taken_by : (T → ℕ) → List (Account T) → ℕ
  taken_by h accounts = sum_by (λ v. sum_by h v.taken) accounts

  -- The owner's account is no tally's. No other has put or lent anything, and none that is not of a tally that is out has taken anything.
  pub record IsPart (v : Account T) : Type 0 where
    pub owner : v.puts ≡ true → v.is_out ≡ false
    pub put : v.puts ≡ false → v.put ≡ []
    pub lent : v.puts ≡ false → v.lent ≡ 0
    pub taken : v.puts ≡ false → v.is_out ≡ false → v.taken ≡ []

  -- However tasks are weighed, what was put weighs what was taken and what the deque holds, so that each task was taken once or is
  -- still there. One account is the owner's, who knows how many tallies are out. Every task on the deque fits.
  pub record Balanced (fits : T → Type 0) (items : List T) (accounts : List (Account T)) : Type 0 where
    pub balance : (h : T → ℕ) → put_by h accounts ≡ taken_by h accounts + sum_by h items
    pub one_puts : count_by (λ v. v.puts) accounts ≡ 1
    pub parts : (i : ℕ) (v : Account T) → get_elem? accounts i ≡ some v → IsPart v
    pub out : count_by (λ v. v.is_out) accounts ≡ sum_by (λ v. v.lent) accounts
    pub fit : All fits items

  -- At one moment the deque held these tasks: however tasks are weighed, what its owner had put weighs what the owner had taken, what each
  -- tally that was out had, and these. Where none was out, each task that was put was taken by the owner, once, or is one of these.
  pub record Held (owner : Account T) (items : List T) : Type 0 where
    pub by_tallies : List (List T)
    pub out : length by_tallies ≡ owner.lent
    pub balance : (h : T → ℕ) → sum_by h owner.put ≡ sum_by h owner.taken + sum_by (λ taken. sum_by h taken) by_tallies + sum_by h items

  -- at one moment it held nothing
  abbrev pub WasEmpty : Account T → Type 0
  WasEmpty owner = Held owner []

-- A deque of jobs while workers steal them.
use Rattle.std.specs.Prelude.{ℕ, ◌≡◌, ◌+◌, ◌-◌, List, length, sum_by}
use Rattle.atomic_blocks.specs.Lent.{RowsId}
use Rattle.dm_deques.specs.Deques.{TallyValue}
use Rattle.dm_divide.specs.declared.jobs.Job.{Job}
use Rattle.dm_part_workers.specs.declared.handing.Hand.{Hand}

abbrev pub Deque : Type 0
Deque = TallyValue Job

-- an owner has put jobs, and has done nothing else
pub record HasPut (old new : Deque) (jobs : List Job) : Type 0 where
  pub deque : new.deque ≡ old.deque
  pub put : (h : Job → ℕ) → sum_by h new.account.put ≡ sum_by h old.account.put + sum_by h jobs
  pub many : length new.account.put ≡ length old.account.put + length jobs
  pub taken : new.account.taken ≡ old.account.taken
  pub lent : new.account.lent ≡ old.account.lent

-- an owner has lent so many tallies, and has done nothing else
pub record HasLent (n : ℕ) (old new : Deque) : Type 0 where
  pub deque : new.deque ≡ old.deque
  pub put : new.account.put ≡ old.account.put
  pub taken : new.account.taken ≡ old.account.taken
  pub lent : new.account.lent ≡ old.account.lent + n

-- a worker has solved what it took from this deque
pub record IsHand (deque : RowsId) (hand : Hand) : Type 0 where
  pub of : hand.tally.deque ≡ deque
  pub done : (h : Job → ℕ) → sum_by h hand.done.items ≡ sum_by h hand.tally.account.taken

-- an owner has taken in what workers took, and their jobs are back
pub record HasSettled (old new : Deque) (hands : List Hand) (before after : List Job) : Type 0 where
  pub put : new.account.put ≡ old.account.put
  pub lent : new.account.lent ≡ old.account.lent - length hands
  pub taken : (h : Job → ℕ) → sum_by h new.account.taken + sum_by h before ≡ sum_by h old.account.taken + sum_by h after

-- an owner has taken what was left, nothing is left now, and what it took is back
pub record IsEmptied (old new : Deque) (before after : List Job) : Type 0 where
  pub put : new.account.put ≡ old.account.put
  pub balance : (h : Job → ℕ) → sum_by h new.account.put ≡ sum_by h new.account.taken
  pub taken : (h : Job → ℕ) → sum_by h new.account.taken + sum_by h before ≡ sum_by h old.account.taken + sum_by h after

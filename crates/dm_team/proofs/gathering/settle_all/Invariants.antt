use Rattle.std.proofs.Common.{◌≡◌, ◌+◌, ℕ, length, map, All}
use Rattle.dm_deques.specs.Sharing.{deque_of}
use Rattle.dm_team.specs.Accounts.{Weight, owners_put, owners_taken}
use Rattle.dm_team.specs.Inside.Gathering.{all_taken, HasLent}
use Rattle.dm_team.proofs.gathering.settle_all.Given as goal

abbrev pub invariant-loop-each : goal.invariant-loop-each
invariant-loop-each g l =
    record {
      all : All (λ ts. map deque_of ts ≡ map deque_of l.fn.owners.items) l.each-iterator.rest.items;
      deques : map deque_of l.settled.items ≡ map deque_of l.fn.owners.items;
      put : (h : Weight) → owners_put h l.settled.items ≡ owners_put h l.fn.owners.items;
      lent : (n : ℕ) → All (HasLent (n + length l.fn.tallies.items)) l.fn.owners.items → All (HasLent (n + length l.each-iterator.rest.items)) l.settled.items;
      taken : (h : Weight) → owners_taken h l.settled.items + all_taken h l.each-iterator.rest.items ≡ owners_taken h l.fn.owners.items + all_taken h l.fn.tallies.items;
    }

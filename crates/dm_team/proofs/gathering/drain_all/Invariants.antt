use Rattle.std.proofs.Common.{◌≡◌, ◌+◌, All, length}
use Rattle.std.specs.Prelude.{sum_by}
use Rattle.dm_team.specs.Accounts.{Weight, IsDrained, owners_put, owners_taken}
use Rattle.dm_team.specs.Inside.Gathering.{HasLent}
use Rattle.dm_team.proofs.gathering.drain_all.Given as goal

abbrev pub invariant-loop-owner : goal.invariant-loop-owner
invariant-loop-owner g l =
    record {
      lent : All (HasLent 0) l.owner-iterator.rest.items;
      drained : All IsDrained l.drained.items;
      many : length l.drained.items + length l.owner-iterator.rest.items ≡ length l.fn.owners.items;
      put : (h : Weight) → owners_put h l.drained.items + owners_put h l.owner-iterator.rest.items ≡ owners_put h l.fn.owners.items;
      taken : (h : Weight) → owners_taken h l.drained.items + owners_taken h l.owner-iterator.rest.items + sum_by h l.initial.given_up.items
          ≡ owners_taken h l.fn.owners.items + sum_by h l.given_up.items;
    }

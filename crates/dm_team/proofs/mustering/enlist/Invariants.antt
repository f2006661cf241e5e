use Rattle.std.proofs.Common.{◌≡◌, [], map, All, length}
use Rattle.dm_deques.specs.Sharing.{deque_of}
use Rattle.dm_team.specs.Accounts.{Weight, owners_put}
use Rattle.dm_team.specs.Inside.Gathering.{HasLentOnly}
use Rattle.dm_team.proofs.mustering.enlist.Given as goal

abbrev pub invariant-loop-other : goal.invariant-loop-other
invariant-loop-other g l =
    record {
      many : length l.owners.items ≡ l._other;
      thieves : map deque_of l.owners.items ≡ l.thieves.items;
      root : (h : Weight) → owners_put h l.owners.items ≡ h [];
      new : All (HasLentOnly 0) l.owners.items;
    }

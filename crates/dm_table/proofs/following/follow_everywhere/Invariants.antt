use Rattle.std.proofs.Common.{◌≡◌, ◌≤◌, vec_capacity}
use Rattle.dm_table.specs.Inside.Noted.{IsRightBut, AreMarksBut}
use Rattle.dm_table.proofs.following.follow_everywhere.Given as goal

abbrev pub invariant-loop-place : goal.invariant-loop-place
invariant-loop-place l =
    record {
      so_far : IsRightBut (λ i. l.place ≤ i) l.of.times.now l.initial.into l.into l.listed.items l.place;
      marks : AreMarksBut (λ i. l.place ≤ i) l.of.rows.now.cancelled l.initial.cancelled l.cancelled l.listed.items;
      room : vec_capacity l.listed ≡ vec_capacity l.initial.listed;
    }

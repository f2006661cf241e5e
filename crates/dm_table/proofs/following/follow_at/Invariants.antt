use Rattle.std.proofs.Common.{◌≡◌, drop, vec_capacity}
use Rattle.std.specs.Prelude.{Contains}
use Rattle.dm_table.specs.Inside.Noted.{IsRightBut, AreMarksBut}
use Rattle.dm_table.proofs.following.follow_at.Given as goal

abbrev pub invariant-loop-place : goal.invariant-loop-place
invariant-loop-place l =
    record {
      so_far : IsRightBut (Contains (drop l.place-index l.places)) l.of.times.now l.initial.into l.into l.listed.items l.place-index;
      marks : AreMarksBut (Contains (drop l.place-index l.places)) l.of.rows.now.cancelled l.initial.cancelled l.cancelled l.listed.items;
      room : vec_capacity l.listed ≡ vec_capacity l.initial.listed;
    }

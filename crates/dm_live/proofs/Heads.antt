-- Heads of the held activities out of an event that are marked, each at the place of its event.
use Rattle.std.proofs.Common.{ℕ, Bool, List, inl, inr}
use Rattle.dm_graph.specs.Arcs.{Arcs}
use Rattle.dm_settle.specs.Inside.Sweep.{MarksHeads as MarksAtPlaces}
use Rattle.dm_live.specs.Live.{MarksHeads}

pub heads_marked : (g : Arcs) (event : ℕ) (before now : List Bool) → MarksAtPlaces g (λ e. e) event before now → MarksHeads g event before now
heads_marked g event before now marks = record {
  as_many = marks.as_many;
  kept = marks.kept;
  heads = marks.heads;
  only = λ e is_now. elim (marks.only e is_now) [
    | inl was ↦ inl was
    | inr leads ↦ inr (record { arc = leads.arc; binds = leads.binds; leaves = leads.leaves; enters = leads.there })
  ];
}

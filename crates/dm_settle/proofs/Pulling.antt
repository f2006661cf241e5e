-- An arc out of an event that moves, which may move its head or does not.
use Rattle.std.proofs.Common.{◌≡◌, ℕ, ◌+◌, ◌-◌, ◌<◌, max, Bool, true, false, ◌&&◌, nat_le, List, inl, inr, ◌⊎◌, arith, slice_index}
use Rattle.std.proofs.lemmas.Bool.{cases_lt, and_parts, leb-false}
use Rattle.dm_graph.specs.Arcs.{Binds}
use Rattle.dm_graph.specs.Graph.{Graph, IsJoin}
use Rattle.dm_settle.specs.Inside.Sweep.{pulls, pulling}

-- what is not so of both is not so of the second, where it is of the first
second_not : (x y : Bool) → x ≡ true → (x && y) ≡ false → y ≡ false
second_not true y is not = not
second_not false y is not = absurd cc

module _ (g : Graph) (times : List ℕ) (e time a : ℕ) where
  pub pulls_too : Binds g.shape a → pulls g times e time a ≡ true → Binds (pulling g times e time) a
  pulls_too b pulled = record { is_arc = b.is_arc; is_held = pulled; from_event = b.from_event; to_event = b.to_event }

  pub binds_still : Binds (pulling g times e time) a → Binds g.shape a
  binds_still b = record {
    is_arc = b.is_arc;
    is_held = (and_parts (g.shape.held a) (nat_le (slice_index times (g.shape.head a)) (max (slice_index times e) time + g.span a)) b.is_held).0;
    from_event = b.from_event;
    to_event = b.to_event;
  }

  -- its head is later than it allows, before the event moves and from then on
  pub late_unless : Binds g.shape a → pulls g times e time a ≡ false →
      (slice_index times e + g.span a < slice_index times (g.shape.head a)) × (time + g.span a < slice_index times (g.shape.head a))
  late_unless b not =
      let late : max (slice_index times e) time + g.span a < slice_index times (g.shape.head a) =
      leb-false (slice_index times (g.shape.head a)) (max (slice_index times e) time + g.span a) (second_not (g.shape.held a) _ b.is_held not) in
      (omega (arith, late), omega (arith, late))

-- an event later than each arc allows whose tail has another time has its time still
pub late_stays : (g : Graph) (x y : ℕ → ℕ) (f : ℕ) → IsJoin g x f (x f) →
    ((a : ℕ) → Binds g.shape a → g.shape.head a ≡ f →
    (x (g.shape.tail a) ≡ y (g.shape.tail a)) ⊎ ((x (g.shape.tail a) + g.span a < x f) × (y (g.shape.tail a) + g.span a < x f))) →
    IsJoin g y f (x f)
late_stays g x y f had each =
    record {
      above = had.above;
      along = λ a b head. elim (each a b head) [
        | inl same ↦ let before = had.along a b head in omega (arith, same, before)
        | inr late ↦ omega (arith, late.1)
      ];
      least = λ u floor meets. elim (cases_lt u (x f)) [
        | inl below ↦
            let sooner = had.least (x f - 1) (omega (arith, floor, below)) (λ a b head. elim (each a b head) [
              | inl same ↦ let now = meets a b head in omega (arith, same, now, below)
              | inr late ↦ omega (arith, late.0)
            ]) in
            absurd (omega (arith, sooner, below))
        | inr enough ↦ enough
      ];
    }

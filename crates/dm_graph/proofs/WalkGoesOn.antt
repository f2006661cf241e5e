-- What each step leaves of the walk: it holds, fewer steps are left, and what was met is met.
use Rattle.std.proofs.Common.{◌≡◌, ℕ, suc, ◌+◌, ◌*◌, ◌<◌, ◌≤◌, List, length, set, sym, ap, subst, ◌∙◌, arith, length-set, slice_index, slice_index_or, inl, inr}
use Rattle.std.specs.Prelude.{sum}
use Rattle.std.proofs.lemmas.Bool.{cases_eq}
use Rattle.std.proofs.lemmas.Grind.{get_or_default_zero}
use Rattle.std.proofs.lemmas.List.Sums.{sum_by-set, sum_by-le}
use Rattle.std.proofs.lemmas.List.Elements.{All-from_get_or}
use Rattle.dm_graph.specs.Arrays.{InRow, AreArcRows, AreEnds}
use Rattle.dm_graph.specs.declared.walk.Walk.{Walk}
use Rattle.dm_graph.specs.declared.walk.ArcsByHead.{ArcsByHead}
use Rattle.dm_graph.specs.Inside.Walk.{IsHeldAt, tail_at, AreMarks, LeadsTo, AreLooks, IsWalk, KeepsMet, GoesOnTop, Places, SkipsArc, GoesOn}
use Rattle.dm_graph.proofs.WalkSteps.{not_met, other, same, enter_marks, enter_looks, place_marks, place_looks, skip_looks, v_is_event, on_path}

-- the rows together have at most as many places as each event times all places
next_sum : (by_head : ArcsByHead) (n arcs : ℕ) (order rank next : List ℕ) (placed top : ℕ) →
    AreArcRows n arcs by_head.offsets.now by_head.places.now → AreLooks by_head n order rank next placed top → sum next ≤ n * length by_head.places.now
next_sum by_head n arcs order rank next placed top r l =
    let count = l.next_count in
    let each = All-from_get_or (λ x. x ≤ length by_head.places.now) next 0 (λ e lt.
    let a : e < n = omega arith in let b = l.not_past e a in let d = r.within e a in omega arith) in
    let all = sum_by-le (λ x. x) (length by_head.places.now) next each in
    let same : length next * length by_head.places.now ≡ n * length by_head.places.now = ap (λ k. k * length by_head.places.now) count in
    omega arith

walk_of : (by_head : ArcsByHead) (n : ℕ) (w : Walk) → length w.order.items ≡ n →
    AreArcRows n (length by_head.tails.now) by_head.offsets.now by_head.places.now → AreEnds n (length by_head.tails.now) by_head.tails.now by_head.held.now →
    AreMarks n w.order.items w.rank.items w.placed w.top →
    AreLooks by_head n w.order.items w.rank.items w.next.items w.placed w.top →
    IsWalk by_head w
walk_of by_head n w is rows ends marks looks = record {
  rows = subst (λ k. AreArcRows k (length by_head.tails.now) by_head.offsets.now by_head.places.now) (sym is) rows;
  ends = subst (λ k. AreEnds k (length by_head.tails.now) by_head.tails.now by_head.held.now) (sym is) ends;
  marks = subst (λ k. AreMarks k w.order.items w.rank.items w.placed w.top) (sym is) marks;
  looks = subst (λ k. AreLooks by_head k w.order.items w.rank.items w.next.items w.placed w.top) (sym is) looks;
}

module _ (by_head : ArcsByHead) (old new : Walk) (w : IsWalk by_head old) where
  -- a step after which marks and looks hold goes on, where the steps left are fewer
  goes_on : length new.order.items ≡ length old.order.items →
      AreMarks (length old.order.items) new.order.items new.rank.items new.placed new.top →
      AreLooks by_head (length old.order.items) new.order.items new.rank.items new.next.items new.placed new.top →
      new.top + sum old.next.items + 2 * old.placed < old.top + sum new.next.items + 2 * new.placed →
      KeepsMet old new → GoesOn by_head old new
  goes_on as_many marks looks fewer met =
      let before = next_sum by_head (length old.order.items) (length by_head.tails.now) old.order.items old.rank.items old.next.items old.placed old.top w.rows w.looks in
      let after = next_sum by_head (length old.order.items) (length by_head.tails.now) new.order.items new.rank.items new.next.items new.placed new.top w.rows looks in
      let product : length new.order.items * length by_head.places.now ≡ length old.order.items * length by_head.places.now =
      ap (λ k. k * length by_head.places.now) as_many in
      let unmet_before = w.marks.unmet in
      let unmet_after = marks.unmet in
      let within_before = w.marks.top_within in
      let within_after = marks.top_within in
      record {
        holds = walk_of by_head (length old.order.items) new as_many w.rows w.ends marks looks;
        as_many = as_many;
        fewer = omega arith;
        met = met;
      }

  pub entered : (u : ℕ) → u < length old.order.items → slice_index old.rank.items u ≡ length old.order.items →
      (old.top < length old.order.items → LeadsTo by_head old.next.items (slice_index old.order.items old.top) u) →
      GoesOnTop old u new → GoesOn by_head old new
  entered u lt unmet leads e =
      let is_top : old.top ≡ suc new.top = let t = e.top in omega arith in
      let as_many : length new.order.items ≡ length old.order.items = ap length e.order ∙ length-set old.order.items new.top u in
      let sums : sum new.next.items ≡ sum old.next.items = ap sum e.next in
      let p = e.placed in
      goes_on as_many
      (rw (e.order, e.rank, e.placed)
      (enter_marks (length old.order.items) old.order.items old.rank.items old.placed old.top w.marks u lt unmet new.top is_top))
      (rw (e.order, e.rank, e.next, e.placed)
      (enter_looks (length old.order.items) old.order.items old.rank.items old.placed old.top w.marks u lt unmet new.top is_top
      by_head old.next.items w.looks leads))
      (omega arith)
      (λ k below known.
      let apart = not_met (length old.order.items) old.order.items old.rank.items old.placed old.top w.marks u lt unmet new.top is_top k known in
      let o : slice_index new.rank.items k ≡ slice_index old.rank.items k =
      ap (λ r. slice_index r k) e.rank ∙ other old.rank.items u new.top k apart in
      omega arith)

  pub placed_on : (v : ℕ) → old.top < length old.order.items → slice_index old.order.items old.top ≡ v →
      slice_index old.next.items v ≡ slice_index by_head.offsets.now (v + 1) →
      Places old v new → GoesOn by_head old new
  placed_on v short is_v over e =
      let up : new.top ≡ suc old.top = let t = e.top in omega arith in
      let one : new.placed ≡ suc old.placed = let t = e.placed in omega arith in
      let as_many : length new.order.items ≡ length old.order.items = ap length e.order ∙ length-set old.order.items old.placed v in
      let sums : sum new.next.items ≡ sum old.next.items = ap sum e.next in
      let counts = w.marks.rank_count in
      let all = w.marks.unmet in
      let ve = v_is_event (length old.order.items) old.order.items old.rank.items old.placed old.top w.marks v short is_v in
      goes_on as_many
      (rw (e.order, e.rank, one, up)
      (place_marks (length old.order.items) old.order.items old.rank.items old.placed old.top w.marks v short is_v))
      (rw (e.order, e.rank, e.next, one, up)
      (place_looks (length old.order.items) old.order.items old.rank.items old.placed old.top w.marks v short is_v
      by_head old.next.items w.looks over))
      (omega arith)
      (λ k below known.
      let r : slice_index new.rank.items k ≡ slice_index (set old.rank.items v old.placed) k = ap (λ r. slice_index r k) e.rank in
      elim (cases_eq k v) [
        | inl is ↦ let o = same old.rank.items v old.placed k is (omega arith) in omega arith
        | inr ne ↦ let o = other old.rank.items v old.placed k ne in omega arith
      ])

  pub skipped_on : (v : ℕ) → old.top < length old.order.items → slice_index old.order.items old.top ≡ v →
      slice_index old.next.items v < slice_index by_head.offsets.now (v + 1) →
      (IsHeldAt by_head (slice_index old.next.items v) → slice_index old.rank.items (tail_at by_head (slice_index old.next.items v)) < old.placed) →
      SkipsArc old v new → GoesOn by_head old new
  skipped_on v short is_v not_over free e =
      let as_many : length new.order.items ≡ length old.order.items = ap length e.order in
      let counts = w.looks.next_count in
      let ve = v_is_event (length old.order.items) old.order.items old.rank.items old.placed old.top w.marks v short is_v in
      let one = sum_by-set (λ x. x) old.next.items v (slice_index old.next.items v + 1) 0 (omega arith) in
      let sums : sum new.next.items ≡ sum (set old.next.items v (slice_index old.next.items v + 1)) = ap sum e.next in
      let t = e.top in
      let p = e.placed in
      goes_on as_many (rw (e.order, e.rank, e.placed, e.top) w.marks)
      (rw (e.order, e.rank, e.next, e.placed, e.top)
      (skip_looks (length old.order.items) old.order.items old.rank.items old.placed old.top w.marks v short is_v
      by_head old.next.items w.looks not_over free))
      (omega arith)
      (λ k below known.
      let r : slice_index new.rank.items k ≡ slice_index old.rank.items k = ap (λ r. slice_index r k) e.rank in
      omega arith)

-- the event read at the top of the path
pub top_is : (order : List ℕ) (top v : ℕ) → top < length order → v ≡ slice_index_or order top v → slice_index order top ≡ v
top_is order top v lt read = sym (read ∙ get_or_default_zero order top v lt)

-- an arc that is held to, and leaves an event that is met and not placed, leaves an event of the path
pub finds_on_path : (by_head : ArcsByHead) (walk : Walk) → IsWalk by_head walk →
    (e place r : ℕ) → e < length walk.order.items → place ≡ slice_index_or walk.next.items e place →
    (place ≡ slice_index by_head.offsets.now (e + 1) → ⊥) → IsHeldAt by_head place →
    r ≡ slice_index_or walk.rank.items (tail_at by_head place) r → walk.placed ≤ r → (r ≡ length walk.rank.items → ⊥) →
    LeadsTo by_head walk.next.items e (slice_index walk.order.items r) × (walk.top ≤ r) × (r < length walk.order.items)
finds_on_path by_head walk w e place r lt read not_over is_held ranks late known =
    let nc = w.looks.next_count in
    let rc = w.marks.rank_count in
    let is : place ≡ slice_index walk.next.items e = read ∙ get_or_default_zero walk.next.items e place (omega arith) in
    let begun = w.looks.begun e lt in
    let not_past = w.looks.not_past e lt in
    let in_row : InRow by_head.offsets.now e place = record { begun = omega arith; not_over = omega arith } in
    let tail_in = w.ends.from_event (slice_index by_head.places.now place) (w.rows.has_arcs e place lt in_row) in
    let rank_is : r ≡ slice_index walk.rank.items (tail_at by_head place) =
    ranks ∙ get_or_default_zero walk.rank.items (tail_at by_head place) r (omega arith) in
    let on = on_path (length walk.order.items) walk.order.items walk.rank.items walk.placed walk.top w.marks
    (tail_at by_head place) r tail_in rank_is late (λ q. known (q ∙ sym w.marks.rank_count)) in (
      record {
        not_over = omega arith;
        is_held = subst (λ p. IsHeldAt by_head p) is is_held;
        tail = ap (tail_at by_head) (sym is) ∙ sym on.0;
      },
      on.1,
      on.2,
    )

-- the rank read for an event that is not met
pub unmet_is : (rank : List ℕ) (e r n : ℕ) → e < length rank → r ≡ slice_index_or rank e r → r ≡ n → slice_index rank e ≡ n
unmet_is rank e r n lt read is = sym (read ∙ get_or_default_zero rank e r lt) ∙ is

-- What the walk has found: an order where it placed every event, a cycle where its path closes.
use Rattle.std.proofs.Common.{◌≡◌, ℕ, zero, suc, ◌+◌, ◌-◌, ◌*◌, ◌<◌, ◌≤◌, false, cond, List, [], ◌∷◌, length, refl, sym, ap, subst, ◌∙◌, arith, ne_eqb, slice_index, slice_index_or, mul-zero, add-zero, take, ◌++◌}
use Rattle.std.specs.Prelude.{◌==◌, count_by}
use Rattle.std.proofs.lemmas.Grind.{common_steps}
use Rattle.std.proofs.lemmas.List.Sums.{sum_by-le}
use Rattle.std.proofs.lemmas.List.Elements.{All-from_get_or}
use Rattle.dm_graph.specs.Arcs.{Arcs, Binds, Chain, IsCycle, IsOrder}
use Rattle.dm_graph.specs.Arrays.{InRow, AreArraysOf, AreRanks}
use Rattle.dm_graph.proofs.Ranks.{order_of_ranks}
use Rattle.dm_graph.specs.declared.walk.Walk.{Walk}
use Rattle.dm_graph.specs.declared.walk.ArcsByHead.{ArcsByHead}
use Rattle.dm_graph.specs.Inside.Walk.{IsHeldAt, tail_at, AreMarks, LeadsTo, Closes, PlacesAll, path_arc, HasPathArcs, ListsPathArcs}

-- no rank is n, so as many events are placed as there are
all_placed : (n : ℕ) (order rank : List ℕ) (placed : ℕ) → AreMarks n order rank placed n →
    ((e : ℕ) → e < n → slice_index rank e < n) → placed ≡ n
all_placed n order rank placed m met =
    let rc = m.rank_count in
    let each = All-from_get_or (λ r. cond (r == n) 1 0 ≤ 0) rank 0 (λ e lt.
    let below : slice_index rank e < n = met e (omega arith) in
    rw (ne_eqb (slice_index rank e) n (omega arith)) (omega arith)) in
    let none : count_by (λ r. r == n) rank ≤ length rank * 0 = sum_by-le (λ r. cond (r == n) 1 0) 0 rank each in
    let zero_times : length rank * 0 ≡ 0 = mul-zero (length rank) in
    let all = m.unmet in
    omega arith

module _ (by_head : ArcsByHead) (walk : Walk) (p : PlacesAll by_head walk) where
  placed_count : walk.placed ≡ length walk.order.items
  placed_count =
      all_placed (length walk.order.items) walk.order.items walk.rank.items walk.placed
      (subst (λ t. AreMarks (length walk.order.items) walk.order.items walk.rank.items walk.placed t) p.is_empty p.holds.marks) p.met

  pub placed_is_ranked : AreRanks (length walk.order.items) walk.order.items walk.rank.items
  placed_is_ranked =
      let count = placed_count in
      record {
        order_count = refl;
        rank_count = p.holds.marks.rank_count;
        has_place = p.met;
        stands_there = λ e lt. p.holds.marks.ranked e lt (p.met e lt);
        is_event = λ k lt. (p.holds.marks.placed_stand k (omega arith)).is_event;
        is_ranked = λ k lt. (p.holds.marks.placed_stand k (omega arith)).is_ranked;
      }

  module _ (g : Arcs) (arrays : AreArraysOf g by_head.tails.now by_head.offsets.now by_head.places.now by_head.held.now) where
    events_are : length walk.order.items ≡ g.events
    events_are = let a = arrays.offset_count in let b = p.holds.rows.offset_count in omega arith

    -- the rank rises along each arc that binds
    pub placed_rises : (a : ℕ) → Binds g a → slice_index walk.rank.items (g.tail a) < slice_index walk.rank.items (g.head a)
    placed_rises a binds =
        let n = events_are in
        let count = placed_count in
        let arc = binds.is_arc in
        let s = arrays.lists.has_each a arc binds.to_event in
        let is_tail : tail_at by_head s.place ≡ g.tail a = ap (slice_index by_head.tails.now) s.is ∙ arrays.same_tail a arc in
        let is_held : IsHeldAt by_head s.place =
        ap (λ b. slice_index_or by_head.held.now b false) s.is ∙ arrays.same_held a arc ∙ binds.is_held in
        let head = binds.to_event in
        let head_in : g.head a < length walk.order.items = omega arith in
        let early = p.met (g.head a) head_in in
        let rises = p.holds.looks.forward (g.head a) s.place head_in (omega arith) s.in_row is_held in
        let same : slice_index walk.rank.items (tail_at by_head s.place) ≡ slice_index walk.rank.items (g.tail a) = ap (slice_index walk.rank.items) is_tail in
        omega arith

    pub placed_is_order : IsOrder g walk.order.items
    placed_is_order =
        order_of_ranks g walk.order.items walk.rank.items
        (subst (λ n. AreRanks n walk.order.items walk.rank.items) events_are placed_is_ranked) placed_rises

-- arcs that lead from each of some events to the next are a chain
chain_of_links : (g : Arcs) (chain : List ℕ) (event : ℕ → ℕ) →
    ((k : ℕ) → k < length chain → Binds g (slice_index chain k) × (g.tail (slice_index chain k) ≡ event k) × (g.head (slice_index chain k) ≡ event (suc k))) →
    Chain g (event 0) chain (event (length chain))
chain_of_links g [] event links = refl
chain_of_links g (a ∷ rest) event links =
    let first = links 0 (omega arith) in
    let more = chain_of_links g rest (λ k. event (suc k)) (λ k lt. links (suc k) (omega arith)) in
    (first.0, first.1, subst (λ e. Chain g e rest (event (suc (length rest)))) (sym first.2) more)

-- a chain from an event back to it is a cycle
cycle_of_chain : (g : Arcs) (e : ℕ) (chain : List ℕ) → 0 < length chain → Chain g e chain e → IsCycle g chain
cycle_of_chain g e [] some h = absurd (omega arith)
cycle_of_chain g e (a ∷ rest) some h = (h.0, refl, subst (λ j. Chain g (g.head a) rest j) (sym h.1) h.2)

-- the events round a closed path: the one that closes it, and then the path from its top
round_event : List ℕ → ℕ → ℕ → ℕ → ℕ
round_event order top last zero = slice_index order last
round_event order top last (suc k) = slice_index order (top + k)

module _ (by_head : ArcsByHead) (walk : Walk) (last : ℕ) (c : Closes by_head walk last) where
  -- the next arc of an event of the path leaves the event above it, or at the top the one that closes the path
  path_leads : (k : ℕ) → walk.top + k ≤ last →
      LeadsTo by_head walk.next.items (slice_index walk.order.items (walk.top + k)) (round_event walk.order.items walk.top last k)
  unfolding round_event
  path_leads zero le = rw (add-zero) c.leads
  path_leads (suc k) le =
      let lt = c.within in
      let step = c.holds.looks.path (walk.top + k) (omega arith) (omega arith) in
      let is : walk.top + k + 1 ≡ walk.top + suc k = omega arith in
      subst (λ j. LeadsTo by_head walk.next.items (slice_index walk.order.items j) (slice_index walk.order.items (walk.top + k))) is step

  event_at : (k : ℕ) → walk.top + k ≤ last → slice_index walk.order.items (walk.top + k) < length walk.order.items
  event_at k le = let lt = c.within in (c.holds.marks.path_stands (walk.top + k) (omega arith) (omega arith)).is_event

  pub closed_has_arcs : HasPathArcs by_head.places.now walk last
  closed_has_arcs = record {
    on_path = c.on_path;
    within = c.within;
    is_event = λ place from to.
        let e = event_at (place - walk.top) (omega arith) in
        let is : walk.top + (place - walk.top) ≡ place = omega arith in
        let count = c.holds.looks.next_count in
        let same : slice_index walk.order.items (walk.top + (place - walk.top)) ≡ slice_index walk.order.items place = ap (slice_index walk.order.items) is in
        omega arith;
    is_place = λ place from to.
        let is : walk.top + (place - walk.top) ≡ place = omega arith in
        let l = subst (λ j. LeadsTo by_head walk.next.items (slice_index walk.order.items j) (round_event walk.order.items walk.top last (place - walk.top))) is
        (path_leads (place - walk.top) (omega arith)) in
        let below = l.not_over in
        let lt = c.within in
        let e = (c.holds.marks.path_stands place from (omega arith)).is_event in
        let w = c.holds.rows.within (slice_index walk.order.items place) e in
        omega arith;
  }

  module _ (g : Arcs) (arrays : AreArraysOf g by_head.tails.now by_head.offsets.now by_head.places.now by_head.held.now) where
    -- each arc of the path binds, and leads from the event before to its own
    link : (k : ℕ) → walk.top + k ≤ last →
        Binds g (path_arc by_head.places.now walk (walk.top + k)) ×
        (g.tail (path_arc by_head.places.now walk (walk.top + k)) ≡ round_event walk.order.items walk.top last k) ×
        (g.head (path_arc by_head.places.now walk (walk.top + k)) ≡ slice_index walk.order.items (walk.top + k))
    link k le =
        let a = arrays.offset_count in
        let b = c.holds.rows.offset_count in
        let t = arrays.tail_count in
        let e : slice_index walk.order.items (walk.top + k) < length walk.order.items = event_at k le in
        let l = path_leads k le in
        let in_row : InRow by_head.offsets.now (slice_index walk.order.items (walk.top + k)) (slice_index walk.next.items (slice_index walk.order.items (walk.top + k))) =
        record { begun = c.holds.looks.begun (slice_index walk.order.items (walk.top + k)) e; not_over = l.not_over } in
        let arc : path_arc by_head.places.now walk (walk.top + k) < length by_head.tails.now =
        c.holds.rows.has_arcs (slice_index walk.order.items (walk.top + k)) (slice_index walk.next.items (slice_index walk.order.items (walk.top + k))) e in_row in
        let arc_in : path_arc by_head.places.now walk (walk.top + k) < g.arcs = omega arith in
        let tail_is = arrays.same_tail (path_arc by_head.places.now walk (walk.top + k)) arc_in in
        let tail_in = c.holds.ends.from_event (path_arc by_head.places.now walk (walk.top + k)) arc in
        let head_is : g.head (path_arc by_head.places.now walk (walk.top + k)) ≡ slice_index walk.order.items (walk.top + k) =
        arrays.lists.ends_there (slice_index walk.order.items (walk.top + k)) (slice_index walk.next.items (slice_index walk.order.items (walk.top + k))) (omega arith) in_row in (
          record {
            is_arc = arc_in;
            is_held = sym (arrays.same_held (path_arc by_head.places.now walk (walk.top + k)) arc_in) ∙ l.is_held;
            from_event = omega arith;
            to_event = omega arith;
          },
          sym tail_is ∙ l.tail,
          head_is,
        )

    pub closed_is_cycle : (arcs : List ℕ) → ListsPathArcs by_head.places.now walk last arcs → IsCycle g arcs
    unfolding round_event
    closed_is_cycle arcs lists =
        let count = lists.as_many in
        let on = c.on_path in
        let chain = chain_of_links g arcs (round_event walk.order.items walk.top last) (λ k lt.
        let is = lists.each k lt in
        rw is (link k (omega arith))) in
        let some : 0 < length arcs = omega arith in
        let ends : round_event walk.order.items walk.top last (length arcs) ≡ slice_index walk.order.items last =
        let m : length arcs ≡ suc (last - walk.top) = omega arith in
        let is : walk.top + (last - walk.top) ≡ last = omega arith in
        ap (round_event walk.order.items walk.top last) m ∙ ap (slice_index walk.order.items) is in
        cycle_of_chain g (slice_index walk.order.items last) arcs some
        (subst (λ j. Chain g (slice_index walk.order.items last) arcs j) ends chain)

-- the front of a list within a longer front of it with more behind
pub front_of_front : (r n : ℕ) (xs ys : List ℕ) → r ≤ length xs → length xs ≤ n → take r (take n (xs ++ ys)) ≡ take r xs
front_of_front r n xs ys short long = grind (arith, common_steps)

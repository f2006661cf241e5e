-- The time of an event, joined along its row.
use Rattle.std.proofs.Common.{◌∙◌, ◌≡◌, ℕ, ◌+◌, ◌≤◌, Bool, false, IsTrue, List, length, max, sym, ap, subst, inl, inr, arith, slice_index}
use Rattle.std.proofs.lemmas.Bool.{cases_lt}
use Rattle.dm_graph.specs.Graph.{Graph, IsJoin}
use Rattle.dm_network.specs.Net.{Net, EndsAreKnown, activity_at, places_into}
use Rattle.dm_network.specs.Held.{arcs_of}
use Rattle.dm_settle.specs.Inside.Sweep.{HasJoined, time_along}
use Rattle.dm_network.proofs.EventRows.{leads_into, stands_into}
use Rattle.dm_settle.proofs.Held.{with_one_free}

module _ (g : Graph) (times : List ℕ) (e : ℕ) (row : List ℕ) (n time : ℕ) (had : HasJoined g times e row n time) where
  joined_with : IsTrue (g.shape.held (slice_index row n)) →
      HasJoined g times e row (n + 1) (max time (time_along g times (slice_index row n)))
  joined_with held =
      let above = had.above in
      record {
        above = omega arith;
        along = λ k lt is. elim (cases_lt k n) [
          | inl before ↦ let h = had.along k before is in omega arith
          | inr past ↦
              let here : k ≡ n = omega arith in
              let same : time_along g times (slice_index row k) ≡ time_along g times (slice_index row n) = ap (λ (j : ℕ). time_along g times (slice_index row j)) here in
              omega arith
        ];
        least = λ u floor each.
            let before = had.least u floor (λ k lt is. each k (omega arith) is) in
            let now = each n (omega arith) held in
            omega arith;
      }

  -- the same for a time that is given as the later of the two
  pub joined_by : IsTrue (g.shape.held (slice_index row n)) → (along later : ℕ) → along ≡ time_along g times (slice_index row n) →
      later ≡ max time along → HasJoined g times e row (n + 1) later
  joined_by held along later is latest =
      subst (HasJoined g times e row (n + 1)) (sym (latest ∙ ap (max time) is)) (joined_with held)

  joined_without : g.shape.held (slice_index row n) ≡ false → HasJoined g times e row (n + 1) time
  joined_without free =
      record {
        above = had.above;
        along = with_one_free (λ k. g.shape.held (slice_index row k)) (λ k. time_along g times (slice_index row k) ≤ time) n free had.along;
        least = λ u floor each. had.least u floor (λ k lt is. each k (omega arith) is);
      }

  pub joined_still : g.shape.held (slice_index row n) ≡ false → (later : ℕ) → later ≡ time → HasJoined g times e row (n + 1) later
  joined_still free later same = subst (HasJoined g times e row (n + 1)) (sym same) (joined_without free)

-- joined along the whole row of an event, it is the join of the graph
module _ (net : Net) (held : ℕ → Bool) (span floor : ℕ → ℕ) (times : List ℕ) (e : ℕ) (row : List ℕ) (n time : ℕ)
    (had : HasJoined (record { shape = arcs_of net held; span = span; floor = floor }) times e row n time) where
  pub joined_whole : EndsAreKnown net → row ≡ places_into net e → n ≡ length row →
      IsJoin (record { shape = arcs_of net held; span = span; floor = floor }) (slice_index times) e time
  joined_whole known is all =
      record {
        above = had.above;
        along = λ a binds head.
            let s = stands_into net e a row is (record { is_activity = binds.is_arc; head = head }) in
            let within = s.within in
            subst (λ (b : ℕ). slice_index times (activity_at net b).tail + span b ≤ time) s.is
            (had.along s.place (omega arith) (subst (λ (b : ℕ). IsTrue (held b)) (sym s.is) binds.is_held));
        least = λ u above each. had.least u above (λ k lt is_held.
            let leads = leads_into net e k row is (omega arith) in
            each (slice_index row k) (record {
              is_arc = leads.is_activity;
              is_held = is_held;
              from_event = known.tails (slice_index row k) leads.is_activity;
              to_event = known.heads (slice_index row k) leads.is_activity;
            }) leads.head);
      }

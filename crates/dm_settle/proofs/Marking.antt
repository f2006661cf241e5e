-- Marks at the heads of the activities out of an event, set along its row. A mark has the place that its event is given.
use Rattle.std.proofs.Common.{◌≡◌, ℕ, ◌+◌, ◌<◌, Bool, true, false, IsTrue, List, length, sym, subst, ◌∙◌, inl, inr, arith, slice_index, length-set}
use Rattle.std.specs.Prelude.{slice_set}
use Rattle.std.proofs.lemmas.Bool.{cases_lt}
use Rattle.dm_network.specs.Net.{Net, activity_at, places_out_of, EndsAreKnown}
use Rattle.dm_network.specs.Held.{arcs_of}
use Rattle.dm_marks.specs.Marked.{is_marked}
use Rattle.dm_settle.specs.Inside.Sweep.{HasMarked, MarksHeads}
use Rattle.dm_marks.proofs.Marking.{mark_here, mark_still, marked_if}
use Rattle.dm_network.proofs.EventRows.{leads_out, stands_out}
use Rattle.dm_settle.proofs.Held.{with_one_free}

module _ (net : Net) (held : ℕ → Bool) (place_of : ℕ → ℕ) (event : ℕ) (row : List ℕ) (n : ℕ) (before now : List Bool)
    (had : HasMarked (arcs_of net held) place_of event row n before now) where
  pub marked_with : EndsAreKnown net → row ≡ places_out_of net event → n < length row → IsTrue (held (slice_index row n)) →
      place_of (activity_at net (slice_index row n)).head < length now →
      HasMarked (arcs_of net held) place_of event row (n + 1) before (slice_set now (place_of (activity_at net (slice_index row n)).head) true)
  marked_with known is in' is_held below =
      let head : ℕ = place_of (activity_at net (slice_index row n)).head in
      let leads = leads_out net event n row is in' in
      record {
        as_many = length-set now head true ∙ had.as_many;
        kept = λ k was. mark_still now head k below (had.kept k was);
        heads = λ k lt holds. elim (cases_lt k n) [
          | inl earlier ↦ mark_still now head _ below (had.heads k earlier holds)
          | inr past ↦
              let here : n ≡ k = omega arith in
              subst (λ (j : ℕ). is_marked (slice_set now head true) (place_of (activity_at net (slice_index row j)).head) ≡ true) here (mark_here now head true below)
        ];
        only = λ k is_now. elim (marked_if now head k is_now) [
          | inl was ↦ had.only k was
          | inr here ↦ inr (record {
            arc = slice_index row n;
            binds = record {
              is_arc = leads.is_activity;
              is_held = is_held;
              from_event = known.tails (slice_index row n) leads.is_activity;
              to_event = known.heads (slice_index row n) leads.is_activity;
            };
            leaves = leads.tail;
            there = sym here;
          })
        ];
      }

  pub marked_without : held (slice_index row n) ≡ false → HasMarked (arcs_of net held) place_of event row (n + 1) before now
  marked_without free =
      record {
        as_many = had.as_many;
        kept = had.kept;
        heads =
            with_one_free (λ k. held (slice_index row k)) (λ k. is_marked now (place_of (activity_at net (slice_index row k)).head) ≡ true) n
            free had.heads;
        only = had.only;
      }

  -- along the whole row, every head is marked
  pub marked_whole : row ≡ places_out_of net event → n ≡ length row → MarksHeads (arcs_of net held) place_of event before now
  marked_whole is all =
      record {
        as_many = had.as_many;
        kept = had.kept;
        heads = λ a binds leaves.
            let s = stands_out net event a row is (record { is_activity = binds.is_arc; tail = leaves }) in
            let within = s.within in
            subst (λ (b : ℕ). is_marked now (place_of (activity_at net b).head) ≡ true) s.is
            (had.heads s.place (omega arith) (subst (λ (b : ℕ). IsTrue (held b)) (sym s.is) binds.is_held));
        only = had.only;
      }

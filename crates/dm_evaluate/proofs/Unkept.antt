-- What is marked by spans and times of a timetable, and what is violated by rows.
use Rattle.std.proofs.Common.{◌≡◌, ℕ, ◌+◌, ◌<◌, Bool, true, false, ◌&&◌, List, length, Some, refl, sym, ap, ◌∙◌, inl, inr, arith, nat_lt, slice_index}
use Rattle.std.specs.Prelude.{◌==◌}
use Rattle.std.specs.List.{range_with_len}
use Rattle.std.proofs.lemmas.Bool.{cases_lt, and_parts, and_from, eq-eqb, eqb-true, both_ways}
use Rattle.std.proofs.lemmas.List.{get_or_past}
use Rattle.dm_network.specs.Net.{Net, activity_at, pair_at}
use Rattle.dm_rows.specs.Cost.{comes_too_early}
use Rattle.dm_rows.specs.Decide.{with_decisions, is_free_change}
use Rattle.dm_rows.specs.Relax.{is_of_pair, is_unmet_from, has_unmet_from, is_undecided_change, is_undecided_pair}
use Rattle.dm_rows.specs.Rows.{RowsValue}
use Rattle.dm_rows.specs.Timetable.{span_of}
use Rattle.dm_paths.proofs.Agreeing.{passes_one, span_same}
use Rattle.dm_tree.proofs.Freed.{free_change_is}
use Rattle.dm_paths.proofs.Setting.{differs_in_none, differs_with}
use Rattle.dm_priced.specs.Priced.{is_flagged}
use Rattle.dm_priced.specs.Priced as priced
use Rattle.dm_evaluate.specs.Evaluator.{EvaluatorValue, IsEvaluatorOf, times_of}
use Rattle.dm_paths.specs.Flags.{AreFlags}
use Rattle.dm_evaluate.specs.Marks.{MarksValue, MarksUnkept, IsUnmetHeadway, IsUnmetPair}
use Rattle.dm_evaluate.specs.Inside.Marking.{AreMarksOf, Clears}
use Rattle.dm_paths.specs.Decisions.{is_unmet_pair}
use Rattle.dm_paths.proofs.Changing.{its_pair}
use Rattle.dm_paths.proofs.Paths.{one_passes}
use Rattle.dm_paths.proofs.Violating.{in_range, range_below}

-- spans that are those of rows
module _ (net : Net) (rows : RowsValue) (spans x : List ℕ) (are : (a : ℕ) → a < length net.activities → slice_index spans a ≡ span_of net rows a) where
  early_same : (a : ℕ) → a < length net.activities → priced.comes_too_early net spans x a ≡ comes_too_early net rows x a
  early_same a below = ap (λ (s : ℕ). nat_lt (slice_index x (activity_at net a).head) (slice_index x (activity_at net a).tail + s)) (are a below)

  of_its_pair : (p a : ℕ) → (activity_at net a).pair ≡ Some p → is_of_pair p (activity_at net a).pair ≡ true
  of_its_pair p a is = ap (is_of_pair p) is ∙ eq-eqb p p refl

  headway_of : (p tail : ℕ) → has_unmet_from net rows x p tail ≡ true → (a : ℕ) × IsUnmetHeadway net spans x p tail a
  headway_of p tail h =
      let one = passes_one (is_unmet_from net rows x p tail) (range_with_len 0 (length net.activities)) h in
      let a : ℕ = one.0 in
      let below : a < length net.activities = range_below (length net.activities) a one.1 in
      let both = and_parts (is_of_pair p (activity_at net a).pair && (activity_at net a).tail == tail) (comes_too_early net rows x a) one.2 in
      let two = and_parts (is_of_pair p (activity_at net a).pair) ((activity_at net a).tail == tail) both.0 in (
        a,
        record {
          is_activity = below;
          of_pair = its_pair p (activity_at net a).pair two.0;
          leaves = eqb-true (activity_at net a).tail tail two.1;
          early = early_same a below ∙ both.1;
        },
      )

  unmet_of : (p tail a : ℕ) → IsUnmetHeadway net spans x p tail a → has_unmet_from net rows x p tail ≡ true
  unmet_of p tail a h =
      one_passes (is_unmet_from net rows x p tail) (range_with_len 0 (length net.activities)) a (in_range (length net.activities) a h.is_activity)
      (and_from (is_of_pair p (activity_at net a).pair && (activity_at net a).tail == tail) (comes_too_early net rows x a)
      (and_from (is_of_pair p (activity_at net a).pair) ((activity_at net a).tail == tail) (of_its_pair p a h.of_pair) (eq-eqb (activity_at net a).tail tail h.leaves))
      (sym (early_same a h.is_activity) ∙ h.early))

  pub pair_of_unmet : (p : ℕ) → is_unmet_pair net rows x p ≡ true → IsUnmetPair net spans x p
  pair_of_unmet p h =
      let both = and_parts (has_unmet_from net rows x p (pair_at net p).small) (has_unmet_from net rows x p (pair_at net p).large) h in
      let small = headway_of p (pair_at net p).small both.0 in
      let large = headway_of p (pair_at net p).large both.1 in
      record { there = small.0; back = large.0; from_small = small.1; from_large = large.1 }

  pub unmet_of_pair : (p : ℕ) → IsUnmetPair net spans x p → is_unmet_pair net rows x p ≡ true
  unmet_of_pair p h =
      and_from (has_unmet_from net rows x p (pair_at net p).small) (has_unmet_from net rows x p (pair_at net p).large)
      (unmet_of p (pair_at net p).small h.there h.from_small) (unmet_of p (pair_at net p).large h.back h.from_large)

  -- marks that are cleared of what is kept alone
  pub cleared_marks : (before after : MarksValue) → MarksUnkept net spans x before → Clears (comes_too_early net rows x) before.changes after.changes →
      Clears (is_unmet_pair net rows x) before.pairs after.pairs → MarksUnkept net spans x after
  cleared_marks before after was changes pairs = record {
    as_many_changes = changes.as_many ∙ was.as_many_changes;
    as_many_pairs = pairs.as_many ∙ was.as_many_pairs;
    changes = λ a below change early. changes.kept a (was.changes a below change early) (sym (early_same a below) ∙ early);
    pairs = λ p below unmet. pairs.kept p (was.pairs p below unmet) (unmet_of_pair p unmet);
  }

-- the marks of an evaluator
module _ (net : Net) (e : EvaluatorValue) (is : IsEvaluatorOf net e) where
  spans_are : (a : ℕ) → a < length net.activities → slice_index e.priced.live.given.spans a ≡ span_of net e.rows a
  spans_are a below =
      is.evaluates.price.spans a below ∙ span_same e.rows (with_decisions net e.rows e.path) (differs_with net e.rows e.rows e.path (differs_in_none e.rows)) net a

  flagged_below : (test : ℕ → Bool) (n : ℕ) (flags : List Bool) → AreFlags test n flags → (k : ℕ) → is_flagged flags k ≡ true → (k < n) × (test k ≡ true)
  flagged_below test n flags are k on =
      elim (cases_lt k n) [
        | inl below ↦ (below, sym (are.each k below) ∙ on)
        | inr past ↦ let size = are.size in absurd (both_ways (is_flagged flags k) (get_or_past flags k false (omega arith)) on)
      ]

  pub marks_of_changes : AreMarksOf e.changes (comes_too_early net e.rows (times_of e)) (length net.activities) e.marks.changes
  marks_of_changes = record {
    as_many = is.marked.as_many_changes;
    each = λ a on early.
        let f = flagged_below (is_undecided_change net e.rows e.path) (length net.activities) e.changes is.changes a on in
        let free = (and_parts (is_free_change net e.rows a) _ f.1).0 in
        let change = (free_change_is net e.rows a free).change in
        is.marked.changes a f.0 change (early_same net e.rows e.priced.live.given.spans (times_of e) spans_are a f.0 ∙ early);
  }

  pub marks_of_pairs : AreMarksOf e.pairs (is_unmet_pair net e.rows (times_of e)) (length net.pairs) e.marks.pairs
  marks_of_pairs = record {
    as_many = is.marked.as_many_pairs;
    each = λ p on unmet.
        let f = flagged_below (is_undecided_pair net e.rows e.path) (length net.pairs) e.pairs is.pairs p on in
        is.marked.pairs p f.0 (pair_of_unmet net e.rows e.priced.live.given.spans (times_of e) spans_are p unmet);
  }

  pub cleared_is : (after : MarksValue) → Clears (comes_too_early net e.rows (times_of e)) e.marks.changes after.changes →
      Clears (is_unmet_pair net e.rows (times_of e)) e.marks.pairs after.pairs → IsEvaluatorOf net (record e { marks = after })
  cleared_is after changes pairs = record {
    sized = is.sized;
    is_path = is.is_path;
    changes = is.changes;
    pairs = is.pairs;
    evaluates = is.evaluates;
    at_rest = is.at_rest;
    marked = cleared_marks net e.rows e.priced.live.given.spans (times_of e) spans_are e.marks after is.marked changes pairs;
  }

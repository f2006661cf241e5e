-- The timetable of the path without a decision.
use Rattle.std.proofs.Common.{◌≡◌, ℕ, ◌+◌, ◌<◌, Bool, true, false, not, ◌&&◌, List, [], length, refl, sym, ap, subst, ◌∙◌, inl, inr, arith, get_or-set_same, get_or-set_other}
use Rattle.std.specs.Prelude.{slice_set}
use Rattle.std.proofs.lemmas.Bool.{cases_lt}
use Rattle.dm_network.specs.Net.{Net}
use Rattle.dm_network.specs.Held.{is_held}
use Rattle.dm_live.specs.Live.{RefusesLive, IsAtRest, NoneFixed}
use Rattle.dm_order.specs.declared.faults.OrderFault.TheVariants.{Cyclic}
use Rattle.dm_priced.specs.Priced.{PricedValue, IsPriced, is_flagged}
use Rattle.dm_rows.specs.Cost.{is_lost_change}
use Rattle.dm_rows.specs.Decide.{is_free_change}
use Rattle.dm_rows.specs.declared.messages.Decision.{Decision}
use Rattle.dm_rows.specs.Relax.{is_relaxed_active, is_relaxed_lost, is_undecided_change, is_undecided_pair}
use Rattle.dm_rows.specs.Rows.{RowsValue, IsSized}
use Rattle.dm_settle.specs.Constraints.{ConstraintsValue}
use Rattle.dm_times.specs.Constraints.{AreConstraintsHolding}
use Rattle.dm_evaluate.specs.Evaluating.{Evaluates}
use Rattle.dm_evaluate.specs.Evaluator.{IsEvaluatorOf}
use Rattle.dm_paths.specs.Flags.{AreFlags}
use Rattle.dm_evaluate.specs.Marks.{MarksValue, MarksUnkept}
use Rattle.dm_evaluate.specs.Inside.Starting.{HasRootCycle, HasPassedTo, HasCancelledTo, ChargesLostTo, FlagsOnlyTo}
use Rattle.dm_network.proofs.Holding.{cycle_with}

and_true : (b : Bool) → (b && true) ≡ b
and_true true = refl
and_true false = refl

-- what is lost where nothing is decided: what is lost and not free
pub root_lost : (net : Net) (rows : RowsValue) (a : ℕ) → is_relaxed_lost net rows [] a ≡ (is_lost_change net rows a && not (is_free_change net rows a))
root_lost net rows a = ap (λ (b : Bool). is_lost_change net rows a && not b) (and_true (is_free_change net rows a))

pub root_evaluates : (net : Net) (rows : RowsValue) (priced : PricedValue) → IsPriced net priced →
    AreConstraintsHolding net rows (is_relaxed_active net rows []) priced.live.given → NoneFixed priced.live.fixed → HasPassedTo rows (length net.events) priced.passed →
    HasCancelledTo rows (length net.events) priced.cancelled → ChargesLostTo net rows (length net.activities) priced.charged → Evaluates net rows [] priced
root_evaluates net rows priced is holds none_fixed passed cancelled charged = record {
  is_priced = is;
  none_fixed = none_fixed;
  held = holds.held;
  floors = holds.floors;
  price = record {
    passed = passed;
    cancelled = cancelled;
    charged = charged;
    spans = holds.spans;
  };
}

-- constraints that hold what binds and have a cycle
pub has_root_cycle : (net : Net) (rows : RowsValue) (given : ConstraintsValue) → AreConstraintsHolding net rows (is_relaxed_active net rows []) given →
    RefusesLive net given Cyclic → HasRootCycle net rows
has_root_cycle net rows given holds h = record {
  cycle = h.cycle;
  is_cycle = cycle_with net (is_held given.held) (is_relaxed_active net rows []) (λ a lt on. sym (holds.held a lt) ∙ on) h.cycle h.is_cycle;
}

-- flags of what passes a test, one place after the other
module _ (test : ℕ → Bool) where
  pub none_flagged : (flags : List Bool) → ((k : ℕ) → is_flagged flags k ≡ false) → FlagsOnlyTo test 0 flags
  none_flagged flags none = record { before = λ k lt. absurd (omega (arith, lt)); none = λ k past. none k }

  pub unflagged_next : (n : ℕ) (flags : List Bool) → test n ≡ false → FlagsOnlyTo test n flags → FlagsOnlyTo test (n + 1) flags
  unflagged_next n flags off was = record {
    before = λ k lt. elim (cases_lt k n) [
      | inl earlier ↦ was.before k earlier
      | inr past ↦ let here : k ≡ n = omega arith in was.none k past ∙ sym off ∙ ap test (sym here)
    ];
    none = λ k past. was.none k (omega arith);
  }

  pub flagged_next : (n : ℕ) (before after : List Bool) → after ≡ slice_set before n true → n < length before → test n ≡ true →
      FlagsOnlyTo test n before → FlagsOnlyTo test (n + 1) after
  flagged_next n before after is below passes was = record {
    before = λ k lt. ap (λ (f : List Bool). is_flagged f k) is ∙ (elim (cases_lt k n) [
      | inl earlier ↦ get_or-set_other before n k true false (omega arith) ∙ was.before k earlier
      | inr past ↦
          let here : k ≡ n = omega arith in
          ap (is_flagged (slice_set before n true)) here ∙ get_or-set_same before n true false below ∙ sym passes ∙ ap test (sym here)
    ]);
    none = λ k past. ap (λ (f : List Bool). is_flagged f k) is ∙ get_or-set_other before n k true false (omega arith) ∙ was.none k (omega arith);
  }

-- what evaluates the path without a decision
pub root_evaluator : (net : Net) (rows : RowsValue) (path : List Decision) (changes pairs : List Bool) (priced : PricedValue) (marks : MarksValue) → IsSized net rows → path ≡ [] →
    AreFlags (is_undecided_change net rows []) (length net.activities) changes → AreFlags (is_undecided_pair net rows []) (length net.pairs) pairs →
    Evaluates net rows [] priced → IsAtRest priced.live → ((spans x : List ℕ) → MarksUnkept net spans x marks) →
    IsEvaluatorOf net (record { rows = rows; path = path; changes = changes; pairs = pairs; priced = priced; marks = marks })
root_evaluator net rows path changes pairs priced marks sized none are_changes are_pairs evaluates rest marked =
    subst (λ (p : List Decision). IsEvaluatorOf net (record { rows = rows; path = p; changes = changes; pairs = pairs; priced = priced; marks = marks })) (sym none)
    (record {
      sized = sized;
      is_path = record { free = λ k d lt. absurd (omega (arith, lt)); once = λ m n d e h. absurd cc };
      changes = are_changes;
      pairs = are_pairs;
      evaluates = evaluates;
      at_rest = rest;
      marked = marked priced.live.given.spans priced.live.times;
    })

-- Headways of a pair that are held and let go, one and several.
use Rattle.std.proofs.Common.{◌≡◌, ◌≢◌, ℕ, ◌+◌, ◌<◌, Bool, true, false, List, length, refl, sym, ap, ◌∙◌, inl, inr, arith, slice_index, get_or-set_same, get_or-set_other}
use Rattle.std.specs.Prelude.{slice_set}
use Rattle.std.proofs.lemmas.Bool.{cases_eq}
use Rattle.dm_network.specs.Net.{Net, activity_at}
use Rattle.dm_network.specs.Held.{is_held, IsCycleOf}
use Rattle.dm_rows.specs.Relax.{is_of_pair}
use Rattle.dm_settle.specs.Constraints.{ConstraintsValue}
use Rattle.dm_live.specs.Live.{LiveValue, with_held}
use Rattle.dm_priced.specs.Priced.{PricedValue}
use Rattle.dm_evaluate.specs.Inside.Moves.{IsOnly, KeepsBut, TurnsAmong, IsRefused}
use Rattle.dm_paths.specs.RowsRead.{IsAmong}
use Rattle.dm_paths.proofs.Changing.{its_pair, no_pair}
use Rattle.dm_paths.proofs.RowsRead.{among_next}

set_on : (flags : List Bool) (a b : ℕ) (flag : Bool) → b ≡ a → a < length flags → is_held (slice_set flags a flag) b ≡ flag
set_on flags a b flag is below = ap (is_held (slice_set flags a flag)) is ∙ get_or-set_same flags a flag false below

set_off : (flags : List Bool) (a b : ℕ) (flag : Bool) → b ≢ a → is_held (slice_set flags a flag) b ≡ is_held flags b
set_off flags a b flag ne = get_or-set_other flags a b flag false ne

among_before : (row : List ℕ) (n b : ℕ) → IsAmong row n b → IsAmong row (n + 1) b
among_before row n b (k, lt, is) = (k, omega arith, is)

module _ (net : Net) (p : ℕ) where
  keeps_all : (among : ℕ → Type 0) (priced : PricedValue) → KeepsBut net p among priced priced
  keeps_all among priced = record { same = λ b. inl refl; floors = refl; spans = refl; times = refl; fixed = refl; passed = refl; cancelled = refl; charged = refl }

  keeps_then : (P Q R : ℕ → Type 0) (one two three : PricedValue) → ((b : ℕ) → P b → R b) → ((b : ℕ) → Q b → R b) →
      KeepsBut net p P one two → KeepsBut net p Q two three → KeepsBut net p R one three
  keeps_then P Q R one two three f g h k = record {
    same = λ b. elim (k.same b) [
      | inl later ↦ elim (h.same b) [ inl earlier ↦ inl (later ∙ earlier) | inr q ↦ inr (f b q.0, q.1) ]
      | inr q ↦ inr (g b q.0, q.1)
    ];
    floors = k.floors ∙ h.floors;
    spans = k.spans ∙ h.spans;
    times = k.times ∙ h.times;
    fixed = k.fixed ∙ h.fixed;
    passed = k.passed ∙ h.passed;
    cancelled = k.cancelled ∙ h.cancelled;
    charged = k.charged ∙ h.charged;
  }

  pub none_turned : (row : List ℕ) (value : Bool) (priced : PricedValue) → TurnsAmong net p (IsAmong row 0) value priced priced
  none_turned row value priced = record { keeps = keeps_all (IsAmong row 0) priced; done = λ b (k, lt, is) its. absurd (omega arith) }

  -- an activity that is no headway of the pair
  pub turned_not : (a : ℕ) (value : Bool) (priced : PricedValue) → is_of_pair p (activity_at net a).pair ≡ false →
      TurnsAmong net p (IsOnly a) value priced priced
  turned_not a value priced not_its = record {
    keeps = keeps_all (IsOnly a) priced;
    done = λ b is its. absurd (no_pair p (activity_at net a).pair not_its (ap (λ c. (activity_at net c).pair) (sym is) ∙ its));
  }

  pub next_turned : (row : List ℕ) (n a : ℕ) (value : Bool) (one two three : PricedValue) → a ≡ slice_index row n →
      TurnsAmong net p (IsAmong row n) value one two → TurnsAmong net p (IsOnly a) value two three → TurnsAmong net p (IsAmong row (n + 1)) value one three
  next_turned row n a value one two three is f s = record {
    keeps = keeps_then (IsAmong row n) (IsOnly a) (IsAmong row (n + 1)) one two three (among_before row n)
        (λ b e. (n, omega arith, sym (e ∙ is))) f.keeps s.keeps;
    done = λ b r its. elim (among_next row n b r) [
      | inr here ↦ s.done b (here ∙ sym is) its
      | inl earlier ↦ elim (s.keeps.same b) [
        | inl kept ↦ kept ∙ f.done b earlier its
        | inr now ↦ s.done b now.0 its
      ]
    ];
  }

  pub next_refused : (row : List ℕ) (n a : ℕ) (one two three : PricedValue) → n < length row → a ≡ slice_index row n →
      TurnsAmong net p (IsAmong row n) true one two → IsRefused net p (IsOnly a) two three → IsRefused net p (IsAmong row (length row)) one three
  next_refused row n a one two three below is f s =
      let early : (b : ℕ) → IsAmong row n b → IsAmong row (length row) b = λ b (k, lt, e). (k, omega arith, e) in
      let here : (b : ℕ) → IsOnly a b → IsAmong row (length row) b = λ b e. (n, below, sym (e ∙ is)) in
      record {
        keeps = keeps_then (IsAmong row n) (IsOnly a) (IsAmong row (length row)) one two three early here f.keeps s.keeps;
        flags = s.flags;
        each = λ b h. elim (s.each b h) [
          | inr q ↦ inr (here b q.0, q.1)
          | inl was ↦ elim (f.keeps.same b) [
            | inl kept ↦ inl (sym kept ∙ was)
            | inr q ↦ inr (early b q.0, q.1)
          ]
        ];
        is_cycle = s.is_cycle;
      }

  -- an activity whose flag is set
  pub turned_one : (a : ℕ) (value : Bool) (now next : PricedValue) → a < length now.live.given.held → is_of_pair p (activity_at net a).pair ≡ true →
      next.live.given ≡ with_held now.live.given a value → next.live.times ≡ now.live.times → next.live.fixed ≡ now.live.fixed → next ≡ record now { live = next.live } →
      TurnsAmong net p (IsOnly a) value now next
  turned_one a value now next below its given times fixed others =
      let held : (b : ℕ) → is_held next.live.given.held b ≡ is_held (slice_set now.live.given.held a value) b = λ b. ap (λ (g : ConstraintsValue). is_held g.held b) given in
      record {
        keeps = record {
          same = λ b. elim (cases_eq b a) [
            | inl is ↦ inr (is, ap (λ c. (activity_at net c).pair) is ∙ its_pair p (activity_at net a).pair its)
            | inr ne ↦ inl (held b ∙ set_off now.live.given.held a b value ne)
          ];
          floors = ap (λ (g : ConstraintsValue). g.floors) given;
          spans = ap (λ (g : ConstraintsValue). g.spans) given;
          times = times;
          fixed = fixed;
          passed = ap (λ (v : PricedValue). v.passed) others;
          cancelled = ap (λ (v : PricedValue). v.cancelled) others;
          charged = ap (λ (v : PricedValue). v.charged) others;
        };
        done = λ b is mine. held b ∙ set_on now.live.given.held a b value is below;
      }

  pub refused_one : (a : ℕ) (now next : PricedValue) → is_of_pair p (activity_at net a).pair ≡ true →
      next.live ≡ record now.live { order = record now.live.order { cycle = next.live.order.cycle } } → next ≡ record now { live = next.live } →
      IsCycleOf net (is_held (with_held now.live.given a true).held) next.live.order.cycle → IsRefused net p (IsOnly a) now next
  refused_one a now next its live others cycle = record {
    keeps = record {
      same = λ b. inl (ap (λ (v : LiveValue). is_held v.given.held b) live);
      floors = ap (λ (v : LiveValue). v.given.floors) live;
      spans = ap (λ (v : LiveValue). v.given.spans) live;
      times = ap (λ (v : LiveValue). v.times) live;
      fixed = ap (λ (v : LiveValue). v.fixed) live;
      passed = ap (λ (v : PricedValue). v.passed) others;
      cancelled = ap (λ (v : PricedValue). v.cancelled) others;
      charged = ap (λ (v : PricedValue). v.charged) others;
    };
    flags = slice_set now.live.given.held a true;
    each = λ b h. elim (cases_eq b a) [
      | inl is ↦ inr (is, ap (λ c. (activity_at net c).pair) is ∙ its_pair p (activity_at net a).pair its)
      | inr ne ↦ inl (sym (set_off now.live.given.held a b true ne) ∙ h)
    ];
    is_cycle = cycle;
  }

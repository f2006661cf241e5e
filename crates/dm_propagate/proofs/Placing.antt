-- An event that has not passed, with its floor by the rows.
use Rattle.std.proofs.Common.{◌≡◌, ℕ, true, false, List, Bool, None, refl, ap, ◌∙◌}
use Rattle.std.specs.Prelude.{slice_set}
use Rattle.std.proofs.lemmas.List.{set-set}
use Rattle.dm_live.specs.Live.{LiveValue, IsFixed, with_floor}
use Rattle.dm_network.specs.Net.{Net}
use Rattle.dm_priced.specs.Priced.{PricedValue}
use Rattle.dm_rows.specs.Rows.{RowsValue, passed_at, is_cancelled}
use Rattle.dm_rows.specs.Timetable.{floor_of}
use Rattle.dm_settle.specs.Constraints.{ConstraintsValue, arcs_given}
use Rattle.dm_propagate.specs.Inside.Changing.{HasPlace}
use Rattle.dm_propagate.specs.Inside.Flags.{flags_of}
use Rattle.dm_propagate.proofs.Flagging.{flags_fixed}
use Rattle.dm_propagate.proofs.Noted.{keeps_all, keeps_but_one, fixed_and_freed}

module _ (net : Net) (rows : RowsValue) (i : ℕ) (before after : LiveValue) (first : ℕ) (runs : passed_at rows i ≡ None) where
  -- it is cancelled: its floor is its time
  pub placed_alone : (middle : LiveValue) (last : ℕ) → IsFixed (arcs_given net before.given) i (floor_of net rows i) before middle first last →
      middle.given ≡ with_floor before.given i (floor_of net rows i) → middle.order.cycle ≡ before.order.cycle →
      after.given ≡ middle.given → after.times ≡ middle.times → after.marks ≡ middle.marks → after.order.cycle ≡ middle.order.cycle →
      HasPlace net rows i before after first last
  placed_alone middle last fixed floor cycle same times marks cycle_too = record {
    held = ap (λ (g : ConstraintsValue). g.held) (same ∙ floor);
    spans = ap (λ (g : ConstraintsValue). g.spans) (same ∙ floor);
    cycle = cycle_too ∙ cycle;
    floors = ap (λ (g : ConstraintsValue). g.floors) (same ∙ floor);
    times = keeps_but_one before.times after.times i (floor_of net rows i) (times ∙ fixed.times);
    fixed = λ t is. absurd cc;
    alone = λ none out. fixed_and_freed (arcs_given net before.given) i (floor_of net rows i) before middle after first last fixed times marks;
  }

  -- it is not, and its time stays
  pub placed_open : is_cancelled rows i ≡ false → after.given ≡ with_floor before.given i (floor_of net rows i) → after.times ≡ before.times →
      after.order.cycle ≡ before.order.cycle → HasPlace net rows i before after first first
  placed_open running floor times cycle = record {
    held = ap (λ (g : ConstraintsValue). g.held) floor;
    spans = ap (λ (g : ConstraintsValue). g.spans) floor;
    cycle = cycle;
    floors = ap (λ (g : ConstraintsValue). g.floors) floor;
    times = keeps_all (λ e. e ≡ i) before.times after.times times;
    fixed = λ t is. absurd cc;
    alone = λ none out. absurd cc;
  }

-- the flags where an event was fixed and is free again
pub flags_freed : (before middle after : PricedValue) (i : ℕ) → middle.passed ≡ before.passed → middle.cancelled ≡ before.cancelled →
    middle.charged ≡ before.charged → middle.live.fixed ≡ slice_set before.live.fixed i true → after ≡ record middle { live = after.live } →
    after.live.fixed ≡ slice_set middle.live.fixed i false →
    flags_of after ≡ record (flags_of before) { fixed = slice_set before.live.fixed i false }
flags_freed before middle after i passed cancelled charged fixed others freed =
    flags_fixed before after i false false (ap (λ (p : PricedValue). p.passed) others ∙ passed)
    (ap (λ (p : PricedValue). p.cancelled) others ∙ cancelled) (ap (λ (p : PricedValue). p.charged) others ∙ charged)
    (freed ∙ ap (λ (fs : List Bool). slice_set fs i false) fixed ∙ set-set before.live.fixed i true false) refl

-- and where its time is let move
pub flags_open : (before after : PricedValue) (i : ℕ) → after.passed ≡ before.passed → after.cancelled ≡ before.cancelled → after.charged ≡ before.charged →
    after.live.fixed ≡ slice_set before.live.fixed i false → flags_of after ≡ record (flags_of before) { fixed = slice_set before.live.fixed i false }
flags_open before after i passed cancelled charged fixed = flags_fixed before after i false false passed cancelled charged fixed refl

-- The flags of what is undecided after a decision is made or taken back.
use Rattle.std.proofs.Common.{◌≡◌, ℕ, ◌<◌, Bool, true, false, List, length, sym, ap, ◌∙◌, inl, inr, arith, length-set, get_or-set_same, get_or-set_other}
use Rattle.std.specs.Prelude.{slice_set}
use Rattle.std.proofs.lemmas.Bool.{cases_eq}
use Rattle.dm_network.specs.Net.{Net}
use Rattle.dm_network.specs.Start.{IsNetwork}
use Rattle.dm_rows.specs.declared.messages.Decision.{Decision}
use Rattle.dm_rows.specs.declared.messages.Flip.{Flip}
use Rattle.dm_rows.specs.declared.messages.Flip.TheVariants.{Keep, Drop, First}
use Rattle.dm_rows.specs.Rows.{RowsValue, IsSized}
use Rattle.dm_rows.specs.Decide.{IsChoiceList}
use Rattle.dm_rows.specs.Relax.{is_undecided_change, is_undecided_pair}
use Rattle.dm_paths.specs.Flags.{AreFlags, is_flagged}
use Rattle.dm_paths.specs.Decisions.{AddsDecision, IsFlipOf}
use Rattle.dm_paths.specs.Flags.{with_change, with_pair, HasRoomFor}
use Rattle.dm_paths.proofs.Paths.{undecided_change_same, undecided_pair_same, change_decided, change_no_pair, pair_decided, pair_no_change}

pub flags_set : (f g : ℕ → Bool) (n a : ℕ) (flags : List Bool) (v : Bool) → AreFlags f n flags → a < n → g a ≡ v →
    ((k : ℕ) → k < n → (k ≡ a → ⊥) → g k ≡ f k) → AreFlags g n (slice_set flags a v)
flags_set f g n a flags v h below is other =
    let size = h.size in
    record {
      size = length-set flags a v ∙ h.size;
      each = λ k lt. elim (cases_eq k a) [
        | inl same ↦ ap (is_flagged (slice_set flags a v)) same ∙ get_or-set_same flags a v false (omega arith) ∙ sym is ∙ ap g (sym same)
        | inr apart ↦ get_or-set_other flags a k v false apart ∙ h.each k lt ∙ sym (other k lt apart)
      ];
    }

pub flags_same : (f g : ℕ → Bool) (n : ℕ) (flags : List Bool) → AreFlags f n flags → ((k : ℕ) → k < n → g k ≡ f k) → AreFlags g n flags
flags_same f g n flags h same = record { size = h.size; each = λ k lt. h.each k lt ∙ sym (same k lt) }

-- the flags of what is undecided
module _ (net : Net) (network : IsNetwork net) (rows : RowsValue) (sized : IsSized net rows) (path other : List Decision)
    (list : IsChoiceList net rows path) (other_list : IsChoiceList net rows other) (d : Decision) (adds : AddsDecision path other d) where
  pub changes_decided : (flip : Flip) → IsFlipOf net rows d flip → (flags : List Bool) → AreFlags (is_undecided_change net rows path) (length net.activities) flags →
      AreFlags (is_undecided_change net rows other) (length net.activities) (with_change flip false flags)
  changes_decided (Keep a) is flags h =
      flags_set (is_undecided_change net rows path) (is_undecided_change net rows other) (length net.activities) a flags false h is.is_activity
      (change_decided net network rows sized path other list other_list d adds a true is).after
      (λ k lt ne. undecided_change_same net network rows sized path other list other_list d adds k ((change_decided net network rows sized path other list other_list d adds a true is).apart k lt ne))
  changes_decided (Drop a) is flags h =
      flags_set (is_undecided_change net rows path) (is_undecided_change net rows other) (length net.activities) a flags false h is.is_activity
      (change_decided net network rows sized path other list other_list d adds a false is).after
      (λ k lt ne. undecided_change_same net network rows sized path other list other_list d adds k ((change_decided net network rows sized path other list other_list d adds a false is).apart k lt ne))
  changes_decided (First p small) is flags h =
      flags_same (is_undecided_change net rows path) (is_undecided_change net rows other) (length net.activities) flags h
      (λ k lt. undecided_change_same net network rows sized path other list other_list d adds k (pair_no_change net network rows sized path other list other_list d adds p small is k))

  pub pairs_decided : (flip : Flip) → IsFlipOf net rows d flip → (flags : List Bool) → AreFlags (is_undecided_pair net rows path) (length net.pairs) flags →
      AreFlags (is_undecided_pair net rows other) (length net.pairs) (with_pair flip false flags)
  pairs_decided (Keep a) is flags h =
      flags_same (is_undecided_pair net rows path) (is_undecided_pair net rows other) (length net.pairs) flags h
      (λ k lt. undecided_pair_same net network rows sized path other list other_list d adds k (change_no_pair net network rows sized path other list other_list d adds a true is k))
  pairs_decided (Drop a) is flags h =
      flags_same (is_undecided_pair net rows path) (is_undecided_pair net rows other) (length net.pairs) flags h
      (λ k lt. undecided_pair_same net network rows sized path other list other_list d adds k (change_no_pair net network rows sized path other list other_list d adds a false is k))
  pairs_decided (First p small) is flags h =
      flags_set (is_undecided_pair net rows path) (is_undecided_pair net rows other) (length net.pairs) p flags false h is.is_pair
      (pair_decided net network rows sized path other list other_list d adds p small is).after
      (λ k lt ne. undecided_pair_same net network rows sized path other list other_list d adds k ((pair_decided net network rows sized path other list other_list d adds p small is).apart k lt ne))

  pub changes_undecided : (flip : Flip) → IsFlipOf net rows d flip → (flags : List Bool) → AreFlags (is_undecided_change net rows other) (length net.activities) flags →
      AreFlags (is_undecided_change net rows path) (length net.activities) (with_change flip true flags)
  changes_undecided (Keep a) is flags h =
      flags_set (is_undecided_change net rows other) (is_undecided_change net rows path) (length net.activities) a flags true h is.is_activity
      (change_decided net network rows sized path other list other_list d adds a true is).before
      (λ k lt ne. sym (undecided_change_same net network rows sized path other list other_list d adds k ((change_decided net network rows sized path other list other_list d adds a true is).apart k lt ne)))
  changes_undecided (Drop a) is flags h =
      flags_set (is_undecided_change net rows other) (is_undecided_change net rows path) (length net.activities) a flags true h is.is_activity
      (change_decided net network rows sized path other list other_list d adds a false is).before
      (λ k lt ne. sym (undecided_change_same net network rows sized path other list other_list d adds k ((change_decided net network rows sized path other list other_list d adds a false is).apart k lt ne)))
  changes_undecided (First p small) is flags h =
      flags_same (is_undecided_change net rows other) (is_undecided_change net rows path) (length net.activities) flags h
      (λ k lt. sym (undecided_change_same net network rows sized path other list other_list d adds k (pair_no_change net network rows sized path other list other_list d adds p small is k)))

  pub pairs_undecided : (flip : Flip) → IsFlipOf net rows d flip → (flags : List Bool) → AreFlags (is_undecided_pair net rows other) (length net.pairs) flags →
      AreFlags (is_undecided_pair net rows path) (length net.pairs) (with_pair flip true flags)
  pairs_undecided (Keep a) is flags h =
      flags_same (is_undecided_pair net rows other) (is_undecided_pair net rows path) (length net.pairs) flags h
      (λ k lt. sym (undecided_pair_same net network rows sized path other list other_list d adds k (change_no_pair net network rows sized path other list other_list d adds a true is k)))
  pairs_undecided (Drop a) is flags h =
      flags_same (is_undecided_pair net rows other) (is_undecided_pair net rows path) (length net.pairs) flags h
      (λ k lt. sym (undecided_pair_same net network rows sized path other list other_list d adds k (change_no_pair net network rows sized path other list other_list d adds a false is k)))
  pairs_undecided (First p small) is flags h =
      flags_set (is_undecided_pair net rows other) (is_undecided_pair net rows path) (length net.pairs) p flags true h is.is_pair
      (pair_decided net network rows sized path other list other_list d adds p small is).before
      (λ k lt ne. sym (undecided_pair_same net network rows sized path other list other_list d adds k ((pair_decided net network rows sized path other list other_list d adds p small is).apart k lt ne)))

pub room_for : (net : Net) (rows : RowsValue) (d : Decision) (flip : Flip) → IsFlipOf net rows d flip → (changes pairs : List Bool) →
    length changes ≡ length net.activities → length pairs ≡ length net.pairs → HasRoomFor flip changes pairs
room_for net rows d (Keep a) is changes pairs e f = let b = is.is_activity in omega (arith, e, b)
room_for net rows d (Drop a) is changes pairs e f = let b = is.is_activity in omega (arith, e, b)
room_for net rows d (First p small) is changes pairs e f = let b = is.is_pair in omega (arith, f, b)

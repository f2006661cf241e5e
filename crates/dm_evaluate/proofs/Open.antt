-- Choices that are listed, by place; and what is open.
use Rattle.std.proofs.Common.{◌≡◌, ℕ, Bool, true, false, List, length, Option, Some, None, sym, ◌∙◌}
use Rattle.std.specs.Prelude.{IfSome, IsTrue, ◌↔◌}
use Rattle.std.proofs.lemmas.Bool.{and_from, and_parts, both_ways}
use Rattle.dm_network.specs.Net.{Net}
use Rattle.dm_network.specs.Start.{IsNetwork}
use Rattle.dm_rows.specs.declared.messages.Choice.{Choice}
use Rattle.dm_rows.specs.declared.messages.Decision.{Decision}
use Rattle.dm_rows.specs.Cost.{comes_too_early}
use Rattle.dm_rows.specs.Relax.{is_undecided_change, is_undecided_pair}
use Rattle.dm_rows.specs.Rows.{RowsValue}
use Rattle.dm_paths.specs.declared.places.ChoicePlace.{ChoicePlace}
use Rattle.dm_paths.specs.declared.undecided.Undecided.{Undecided}
use Rattle.dm_paths.specs.Decisions.{IsOpen, is_unmet_pair}
use Rattle.dm_paths.specs.Flags.{AreFlags, is_flagged}
use Rattle.dm_paths.specs.Places.{IsPlaceOf, HasNoPlace, at_place}
use Rattle.dm_tree.specs.Relaxed.{IsViolated}
use Rattle.dm_evaluate.specs.Inside.Violations.{LeavesUndecided, IsFlagged}
use Rattle.dm_paths.proofs.Open.{flag_is, not_violated, open_where_flagged, violated_where, where_violated}

-- what stands at a flag is open
pub flagged_is_open : (net : Net) → IsNetwork net → (rows : RowsValue) (path : List Decision) (undecided : Undecided) → LeavesUndecided net rows path undecided →
    (o : Option Choice) → IfSome o (IsFlagged net undecided) → IfSome o (IsOpen net rows path)
flagged_is_open net network rows path undecided u None h = tt
flagged_is_open net network rows path undecided u (Some c) h =
    open_where_flagged net network rows path c h.place h.is
    (sym (flag_is net rows path c h.place h.is undecided.changes.items undecided.pairs.items u.changes u.pairs) ∙ h.flagged)

-- a choice at a place is violated where its flag is set and the times do not keep it
module _ (net : Net) (network : IsNetwork net) (rows : RowsValue) (path : List Decision) (x : List ℕ) (choice : Choice) (place : ChoicePlace) (is : IsPlaceOf net choice place)
    (changes pairs : List Bool) (are_changes : AreFlags (is_undecided_change net rows path) (length net.activities) changes)
    (are_pairs : AreFlags (is_undecided_pair net rows path) (length net.pairs) pairs)
    (flagged : Bool) (flagged_is : flagged ≡ at_place (is_flagged changes) (is_flagged pairs) place) where
  abbrev its_flag : Bool
  its_flag = at_place (is_flagged changes) (is_flagged pairs) place

  abbrev not_kept : Bool
  not_kept = at_place (comes_too_early net rows x) (is_unmet_pair net rows x) place

  parts : IsViolated net rows path x choice → (its_flag ≡ true) × (not_kept ≡ true)
  parts v = and_parts its_flag not_kept (where_violated net network rows path x choice place is changes pairs are_changes are_pairs v)

  pub violated_if_unkept : flagged ≡ true → (unkept : Bool) → unkept ≡ at_place (comes_too_early net rows x) (is_unmet_pair net rows x) place →
      IsTrue unkept ↔ IsViolated net rows path x choice
  violated_if_unkept on unkept unkept_is = (
    λ h. violated_where net network rows path x choice place is changes pairs are_changes are_pairs
        (and_from its_flag not_kept (sym flagged_is ∙ on) (sym unkept_is ∙ h)),
    λ v. unkept_is ∙ (parts v).1,
  )

  pub not_violated_unflagged : flagged ≡ false → IsTrue flagged ↔ IsViolated net rows path x choice
  not_violated_unflagged off = (
    λ h. absurd (both_ways flagged off h),
    λ v. flagged_is ∙ (parts v).0,
  )

-- a choice that has no place is not
pub violates_none : (net : Net) (rows : RowsValue) (path : List Decision) (x : List ℕ) (choice : Choice) → HasNoPlace net choice →
    IsTrue false ↔ IsViolated net rows path x choice
violates_none net rows path x choice none = (λ h. absurd cc, λ v. absurd (not_violated net rows path x choice none v))

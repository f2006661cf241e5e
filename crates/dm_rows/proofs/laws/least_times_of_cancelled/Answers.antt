use Rattle.std.proofs.Common.{[], ◌∷◌, refl}
use Rattle.dm_rows.specs.Examples.{connection, turnaround, ends_early, leaves_again, runs_again, turned_free}
use Rattle.dm_rows.specs.Active.{is_active}
use Rattle.dm_rows.proofs.AsGraph.{active_enter_no_passed}
use Rattle.dm_rows.proofs.Worked.{shown_least}
use Rattle.dm_rows.proofs.laws.least_times_of_cancelled.Goals as goal

-- for each event the activity that makes it as late as it is, where its floor does not
pub returns : goal.returns
returns c =
    record {
      ends_early = shown_least connection ends_early (is_active connection ends_early) _ (0 ∷ 0 ∷ 0 ∷ 0 ∷ 4 ∷ 3 ∷ [])
          (active_enter_no_passed connection ends_early) refl refl refl refl refl;
      leaves_again = shown_least connection leaves_again (is_active connection leaves_again) _ (0 ∷ 0 ∷ 1 ∷ 0 ∷ 4 ∷ 3 ∷ [])
          (active_enter_no_passed connection leaves_again) refl refl refl refl refl;
      runs_again = shown_least connection runs_again (is_active connection runs_again) _ (0 ∷ 0 ∷ 1 ∷ 2 ∷ 4 ∷ 3 ∷ [])
          (active_enter_no_passed connection runs_again) refl refl refl refl refl;
      turned_free = shown_least turnaround turned_free (is_active turnaround turned_free) _ (0 ∷ 0 ∷ 6 ∷ 0 ∷ 0 ∷ 3 ∷ [])
          (active_enter_no_passed turnaround turned_free) refl refl refl refl refl;
    }

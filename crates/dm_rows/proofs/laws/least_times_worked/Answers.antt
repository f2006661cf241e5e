use Rattle.std.proofs.Common.{[], ◌∷◌, refl}
use Rattle.dm_rows.specs.Examples.{connection, at_start, delayed, with_clock, arrived, recalled}
use Rattle.dm_rows.specs.Active.{is_active}
use Rattle.dm_rows.proofs.AsGraph.{active_enter_no_passed}
use Rattle.dm_rows.proofs.Worked.{shown_least}
use Rattle.dm_rows.proofs.laws.least_times_worked.Goals as goal

-- for each event the activity that makes it as late as it is, where its floor does not
pub returns : goal.returns
returns c =
    record {
      start = shown_least connection at_start (is_active connection at_start) _ (0 ∷ 0 ∷ 1 ∷ 2 ∷ 4 ∷ 3 ∷ [])
          (active_enter_no_passed connection at_start) refl refl refl refl refl;
      late = shown_least connection delayed (is_active connection delayed) _ (0 ∷ 0 ∷ 1 ∷ 2 ∷ 4 ∷ 3 ∷ [])
          (active_enter_no_passed connection delayed) refl refl refl refl refl;
      clock = shown_least connection (with_clock 240 at_start) (is_active connection (with_clock 240 at_start)) _ (0 ∷ 0 ∷ 1 ∷ 2 ∷ 4 ∷ 3 ∷ [])
          (active_enter_no_passed connection (with_clock 240 at_start)) refl refl refl refl refl;
      passed = shown_least connection arrived (is_active connection arrived) _ (0 ∷ 0 ∷ 1 ∷ 2 ∷ 5 ∷ 3 ∷ [])
          (active_enter_no_passed connection arrived) refl refl refl refl refl;
      recall = shown_least connection recalled (is_active connection recalled) _ (0 ∷ 0 ∷ 1 ∷ 2 ∷ 4 ∷ 3 ∷ [])
          (active_enter_no_passed connection recalled) refl refl refl refl refl;
    }

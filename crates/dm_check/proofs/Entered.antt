-- Entries, one behind the other.
use Rattle.std.proofs.Common.{◌≡◌, ℕ, ◌+◌, ◌<◌, ◌≤◌, List, [], ◌∷◌, ◌++◌, length, Err, refl, sym, ap, subst, ◌∙◌, length-append}
use Rattle.dm_text.specs.Places.{Place}
use Rattle.dm_text.proofs.Counted.{HasRun, run_begins, run_goes, run_stops, run_ends}
use Rattle.dm_network.specs.Net.{Net}
use Rattle.dm_rows.specs.Rows.{RowsValue, IsSized}
use Rattle.dm_rows.specs.declared.messages.Entry.{Entry}
use Rattle.dm_cert.specs.Answers.{Setting, rows_after}
use Rattle.dm_check.specs.declared.faults.Fault.{Fault}
use Rattle.dm_check.specs.declared.faults.Stop.{Stop}
use Rattle.dm_check.specs.declared.faults.Stop.TheVariants.{Fault as Found, OutOfMemory}
use Rattle.dm_check.specs.FalseRecords.{TellsEntry}
use Rattle.dm_check.specs.Judged.{IsAfter, EntersNext, TellsNextEntry, EntersAll, TellsEntries}

-- entries were told so far, and the rows are those after them
pub record HasEntered (s : Setting) (net : Net) (feeds count : ℕ) (start here : Place) (held : List Entry) (rows : RowsValue) : Type 0 where
  pub run : HasRun {F = Fault} (TellsEntry s feeds) count start held here
  pub is : IsAfter s net held (length held) rows

pub entered_none : (s : Setting) (net : Net) (feeds count : ℕ) (start : Place) (held : List Entry) (rows : RowsValue) → held ≡ [] → s.net ≡ net → rows ≡ s.start → HasEntered s net feeds count start start held rows
entered_none s net feeds count start held rows none net_is rows_are =
    subst (λ (xs : List Entry). HasEntered s net feeds count start start xs rows) (sym none)
    (record { run = run_begins (TellsEntry s feeds) count start; is = record { net_is = net_is; count = refl; rows_are = rows_are } })

pub after_at : (s : Setting) (net : Net) (feeds count : ℕ) (start here : Place) (held : List Entry) (rows : RowsValue) (n : ℕ) → n ≡ length held → HasEntered s net feeds count start here held rows → IsAfter s net held n rows
after_at s net feeds count start here held rows n at had = subst (λ (k : ℕ). IsAfter s net held k rows) (sym at) had.is

pub entered_more : (s : Setting) (net : Net) (feeds count : ℕ) (start here next : Place) (held new : List Entry) (rows after : RowsValue) (e : Entry) (n : ℕ) → n ≡ length held →
    HasEntered s net feeds count start here held rows → length held < count → EntersNext s feeds held n here next after e → new ≡ held ++ e ∷ [] → HasEntered s net feeds count start next new after
entered_more s net feeds count start here next held new rows after e n at had less told new_is =
    subst (λ (xs : List Entry). HasEntered s net feeds count start next xs after) (sym new_is)
    (record {
      run = run_goes (TellsEntry s feeds) count start here next held e had.run less told.told;
      is = record {
        net_is = had.is.net_is;
        count = refl;
        rows_are = told.rows_are ∙ ap (λ k. rows_after s (held ++ e ∷ []) k) (ap (λ k. k + 1) at ∙ sym (length-append held (e ∷ [])));
      };
    })

pub entered_stop : {X : Type 0} (seen : X → List Entry) (s : Setting) (net : Net) (feeds count : ℕ) (start here next : Place) (held : List Entry) (rows after final : RowsValue) (stop : Stop) (n : ℕ) → n ≡ length held →
    HasEntered s net feeds count start here held rows → length held < count → TellsNextEntry s feeds held n here next after (Err stop) → TellsEntries {X = X} seen s feeds count start next final (Err stop)
entered_stop seen s net feeds count start here next held rows after final (Found fault) n at had less told = run_stops (TellsEntry s feeds) count start here held fault had.run less told
entered_stop seen s net feeds count start here next held rows after final OutOfMemory n at had less told = tt

pub entered_all : (s : Setting) (net : Net) (feeds count : ℕ) (start here : Place) (held : List Entry) (rows : RowsValue) → HasEntered s net feeds count start here held rows → count ≤ length held → IsSized net rows →
    EntersAll s feeds count start here rows held
entered_all s net feeds count start here held rows had all sized = record {
  told = run_ends (TellsEntry s feeds) count start here held had.run all;
  rows_are = had.is.rows_are;
  sized = subst (λ (n : Net). IsSized n rows) (sym had.is.net_is) sized;
}

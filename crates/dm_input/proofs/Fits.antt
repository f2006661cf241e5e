-- The numbers of rows that were read are within the limits.
use Rattle.std.proofs.Common.{◌≡◌, ◌≤◌, ℕ, zero, suc, List, [], ◌∷◌, Option, Some, None, Result, Ok, sym, inl, inr, arith}
use Rattle.std.specs.List.{slice_get}
use Rattle.dm_base.specs.Numbers.{whole_value, milli_value}
use Rattle.dm_base.specs.declared.limits.TheConstants.{TIME, BOUND, WEIGHT, DELAY}
use Rattle.dm_base.specs.declared.rows.EventRow.{EventRow}
use Rattle.dm_base.specs.declared.rows.ActRow.{ActRow}
use Rattle.dm_base.specs.declared.rows.DelayRow.{DelayRow}
use Rattle.dm_input.specs.declared.flaws.FileFlaw.{FileFlaw}
use Rattle.dm_lintim.specs.declared.fault.FileFault.{FileFault}
use Rattle.dm_lintim.specs.declared.columns.Column.{Column}
use Rattle.dm_lintim.specs.declared.columns.Column.TheVariants as col
use Rattle.dm_lintim.specs.Files.{IsGood, IsEventRow, IsActivityRow, IsDelayRow, IsEventWord, IsActivityWord, IsNoWord, AreRows, ReadsEvents, ReadsActivities, ReadsDelays, whole_under, milli_under, delay_columns}
use Rattle.dm_lintim.specs.Pieces.{counted_records}
use Rattle.dm_lintim.proofs.CellLemmas.{good_under}
use Rattle.dm_rows.specs.StartFaults.{DelaysAreWithin}
use Rattle.dm_input.specs.Input.{Told, FileAnswers}
use Rattle.dm_input.specs.Inside.Stages.{EventsFit, ActivitiesFit}

nothing_is_small : (text : List ℕ) (most : ℕ) → text ≡ [] → whole_value text ≤ most
nothing_is_small text most e = rw e (omega arith)

nothing_weighs_little : (text : List ℕ) (most : ℕ) → text ≡ [] → milli_value text ≤ most
nothing_weighs_little text most e = rw e (omega arith)

module _ (K : List ℕ → Type 0) (columns : List (Option Column)) (fields : List (List ℕ)) (good : IsGood K columns fields) where
  time_fits : whole_under columns fields col.Time ≤ TIME
  time_fits = elim (good_under K columns fields col.Time good) [ inl none ↦ nothing_is_small _ _ none.1 | inr takes ↦ takes.1 ]

  lower_fits : whole_under columns fields col.Lower ≤ BOUND
  lower_fits = elim (good_under K columns fields col.Lower good) [ inl none ↦ nothing_is_small _ _ none.1 | inr takes ↦ takes.1 ]

  delay_fits : whole_under columns fields col.Delay ≤ DELAY
  delay_fits = elim (good_under K columns fields col.Delay good) [ inl none ↦ nothing_is_small _ _ none.1 | inr takes ↦ takes.1 ]

  weight_fits : milli_under columns fields col.Weight ≤ WEIGHT
  weight_fits = elim (good_under K columns fields col.Weight good) [ inl none ↦ nothing_weighs_little _ _ none.1 | inr takes ↦ takes.1 ]

-- each row of a file has a property that the row of one record has
each_row : {R : Type 0} (IsRow : List (Option Column) → List (List ℕ) → R → Type 0) (P : R → Type 0) (columns : List (Option Column))
    → ((fields : List (List ℕ)) (row : R) → IsRow columns fields row → P row)
    → (records : List (List (List ℕ))) (rows : List R) → AreRows IsRow columns records rows
    → (k : ℕ) (row : R) → slice_get rows k ≡ Some row → P row
each_row IsRow P columns each [] [] are k row e = absurd (cc e)
each_row IsRow P columns each [] (x ∷ xs) are k row e = absurd are
each_row IsRow P columns each (r ∷ rs) [] are k row e = absurd are
each_row IsRow P columns each (r ∷ rs) (x ∷ xs) are zero row e = let same : x ≡ row = cc e in rw (sym same) (each r x are.0)
each_row IsRow P columns each (r ∷ rs) (x ∷ xs) are (suc k) row e = each_row IsRow P columns each rs xs are.1 k row e

event_fits : (columns : List (Option Column)) (fields : List (List ℕ)) (row : EventRow) → IsEventRow columns fields row → (row.time ≤ TIME) × (row.weight ≤ WEIGHT)
event_fits columns fields row is =
    (rw is.time (time_fits IsEventWord columns fields is.good), rw is.weight (weight_fits IsEventWord columns fields is.good))

activity_fits : (columns : List (Option Column)) (fields : List (List ℕ)) (row : ActRow) → IsActivityRow columns fields row → (row.lower ≤ BOUND) × (row.weight ≤ WEIGHT)
activity_fits columns fields row is =
    (rw is.lower (lower_fits IsActivityWord columns fields is.good), rw is.weight (weight_fits IsActivityWord columns fields is.good))

delay_is_within : (columns : List (Option Column)) (fields : List (List ℕ)) (row : DelayRow) → IsDelayRow columns fields row → row.delay ≤ DELAY
delay_is_within columns fields row is = rw is.delay (delay_fits IsNoWord columns fields is.good)

abbrev good : (R : Type 0) → List R → Result (List R) FileFlaw
good R x = Ok x

abbrev none_of : (R : Type 0) → List R
none_of R = []

ok_rows : {R : Type 0} (xs ys : List R) → good R xs ≡ good R ys → xs ≡ ys
ok_rows xs ys e = cc

nothing_there : {R : Type 0} (k : ℕ) (row : R) → slice_get (none_of R) k ≡ Some row → ⊥
nothing_there k row e = cc e

-- the rows of a file that the words may name
each_row_of : {R : Type 0} (P : R → Type 0) (Reads : List ℕ → Result (List R) FileFault → Type 0)
    → ((bytes : List ℕ) (rows : List R) → Reads bytes (Ok rows) → (k : ℕ) (row : R) → slice_get rows k ≡ Some row → P row)
    → (told : Told) (name : Option (List ℕ)) (rows : List R) → FileAnswers told name Reads (Ok rows) → (k : ℕ) (row : R) → slice_get rows k ≡ Some row → P row
each_row_of {R} P Reads each told None rows e k row at =
    let empty : rows ≡ [] = ok_rows rows [] e in
    absurd (nothing_there k row (rw empty at at))
each_row_of P Reads each told (Some name) rows answers k row at = each answers.bytes rows answers.answers.1 k row at

pub events_fit : (columns : List (Option Column)) (told : Told) (name : Option (List ℕ)) (rows : List EventRow) → FileAnswers told name (ReadsEvents columns) (Ok rows) → EventsFit rows
events_fit columns =
    each_row_of (λ row. (row.time ≤ TIME) × (row.weight ≤ WEIGHT)) (ReadsEvents columns)
    (λ bytes rows reads. each_row IsEventRow (λ row. (row.time ≤ TIME) × (row.weight ≤ WEIGHT)) columns (event_fits columns) (counted_records bytes) rows reads.1)

pub activities_fit : (columns : List (Option Column)) (told : Told) (name : Option (List ℕ)) (rows : List ActRow) → FileAnswers told name (ReadsActivities columns) (Ok rows) → ActivitiesFit rows
activities_fit columns =
    each_row_of (λ row. (row.lower ≤ BOUND) × (row.weight ≤ WEIGHT)) (ReadsActivities columns)
    (λ bytes rows reads. each_row IsActivityRow (λ row. (row.lower ≤ BOUND) × (row.weight ≤ WEIGHT)) columns (activity_fits columns) (counted_records bytes) rows reads.1)

pub delays_are_within : (told : Told) (name : Option (List ℕ)) (rows : List DelayRow) → FileAnswers told name ReadsDelays (Ok rows) → DelaysAreWithin rows
delays_are_within =
    each_row_of (λ row. row.delay ≤ DELAY) ReadsDelays
    (λ bytes rows reads. each_row IsDelayRow (λ row. row.delay ≤ DELAY) delay_columns (delay_is_within delay_columns) (counted_records bytes) rows reads.1)

-- The rows of a file while its records are read.
use Rattle.std.specs.Prelude.{ℕ, ◌+◌, ◌≡◌, ◌⊎◌, true, false, List, [], ◌∷◌, ◌++◌, Option}
use Rattle.std.specs.List.{AllByRecursion}
use Rattle.dm_lintim.specs.declared.columns.Column.{Column}
use Rattle.dm_lintim.specs.declared.fault.FileFault.{FileFault}
use Rattle.dm_lintim.specs.Files.{AreRows, BreaksRecord, IsGood}
use Rattle.dm_lintim.specs.Pieces.{counted_among, is_passed_over}

-- records were read into these rows, and these are left
pub record HasRows {R : Type 0} (IsKnown : List ℕ → Type 0) (IsRow : List (Option Column) → List (List ℕ) → R → Type 0)
    (columns : List (Option Column))
    (records left : List (List (List ℕ))) (rows : List R) : Type 0 where
  pub before : List (List (List ℕ))
  pub records_are : records ≡ before ++ left
  pub rows_are : AreRows IsRow columns (counted_among before) rows
  pub good : AllByRecursion (IsGood IsKnown columns) (counted_among before)

-- a record is passed over, or puts its row at the end
abbrev pub AddsRow : {R : Type 0} → (List ℕ → Type 0) → (List (Option Column) → List (List ℕ) → R → Type 0) →
    List (Option Column) → List (List ℕ) → List R → List R → Type 0
AddsRow {R} IsKnown IsRow columns fields old new =
    ((is_passed_over fields ≡ true) × (new ≡ old))
    ⊎ ((is_passed_over fields ≡ false) × (x : R) × IsRow columns fields x × IsGood IsKnown columns fields × (new ≡ old ++ (x ∷ [])))

-- a record that counts breaks a rule, where this many rows stand before it
pub record BreaksFile (IsKnown : List ℕ → Type 0) (columns : List (Option Column)) (fields : List (List ℕ)) (count : ℕ)
    (fault : FileFault) : Type 0 where
  pub counts : is_passed_over fields ≡ false
  pub number : fault.number ≡ count + 1
  pub breaks : BreaksRecord IsKnown columns fields fault.kind

-- Column words while they are read.
use Rattle.std.specs.Prelude.{◌≡◌, ◌<◌, ℕ, List, [], ◌∷◌, ◌++◌, length, Option}
use Rattle.dm_lintim.specs.declared.columns.Column.{Column}
use Rattle.dm_lintim.specs.declared.layout.TheConstants.{MOST}
use Rattle.dm_lintim.specs.Columns.{AreColumns, IsNew, Names}

-- a good word puts its column at the end
abbrev pub AddsColumn : List Column → List (Option Column) → List ℕ → List (Option Column) → Type 0
AddsColumn known old word new = (c : Option Column) × Names known word c × IsNew old c × (length old < MOST) × (new ≡ old ++ (c ∷ []))

-- good words were read, and these are left
pub record HasRead (known : List Column) (words left : List (List ℕ)) (columns : List (Option Column)) : Type 0 where
  pub before : List (List ℕ)
  pub words_are : words ≡ before ++ left
  pub good : AreColumns known before columns

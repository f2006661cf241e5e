-- Ids read to the end of a line.
use Rattle.std.specs.Prelude.{ℕ, ◌≡◌, ◌≤◌, List, All}
use Rattle.std.specs.List.{flat_map}
use Rattle.std.specs.List.Sorted.{IsStrictlyIncreasing}
use Rattle.dm_feed.specs.Parts.{largest_id}
use Rattle.dm_cert.specs.SolvedTexts.{spaced_number}

-- the bytes are these ids, ascending
pub record IsIds (ids : List ℕ) (bytes : List ℕ) : Type 0 where
  pub spelled : bytes ≡ flat_map spaced_number ids
  pub ascend : IsStrictlyIncreasing ids
  pub fits : All (λ id. id ≤ largest_id) ids

abbrev pub IsNoIds : List ℕ → Type 0
IsNoIds bytes = (ids : List ℕ) → IsIds ids bytes → ⊥

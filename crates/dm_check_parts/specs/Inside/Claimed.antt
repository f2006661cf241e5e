-- The ids of all shares in one list.
use Rattle.std.specs.Prelude.{ℕ, List, map}
use Rattle.std.specs.List.{flat_map}
use Rattle.std.specs.List.Sorted.{IsStrictlyIncreasing}
use Rattle.dm_parts.specs.declared.parts.Part.{Part}

abbrev pub all_arrivals : List Part → List ℕ
all_arrivals parts = flat_map (λ part. map (λ e. e.0) part.share.arrivals) parts

abbrev pub all_changes : List Part → List ℕ
all_changes parts = flat_map (λ part. map (λ a. a.0) part.share.changes) parts

-- the ids of a share ascend
pub record HasAscending (part : Part) : Type 0 where
  pub arrivals : IsStrictlyIncreasing (map (λ e. e.0) part.share.arrivals)
  pub changes : IsStrictlyIncreasing (map (λ a. a.0) part.share.changes)

-- What stands on a board in memory, by the ids that it can show.
use Rattle.std.specs.Prelude.{ℕ, ◌≡◌, ◌==◌, ◌<◌, ◌⊎◌, Bool, false, length, List, Option, None, is_some, position, slice_index_or}
use Rattle.std.specs.Option.{option_and_then}
use Rattle.std.specs.List.{list_all}
use Rattle.dm_outside.specs.Calls.{IsListed}

-- what it shows of an event: its time, or whether it is cancelled
abbrev pub value_shown : {V : Type 0} → List ℕ → List (Option V) → ℕ → Option V
value_shown ids values event = option_and_then (λ i. slice_index_or values i None) (position (λ id. id == event) ids)

abbrev pub time_shown : List ℕ → List (Option ℕ) → ℕ → Option ℕ
time_shown ids times event = value_shown ids times event

-- the event can be shown
abbrev pub knows : List ℕ → ℕ → Bool
knows ids event = is_some (position (λ id. id == event) ids)

-- each event of the changes can be
abbrev pub knows_all : {V : Type 0} → List ℕ → List (ℕ × V) → Bool
knows_all ids changes = list_all (λ change. knows ids change.0) changes

-- The next call, a show or a cancel, fails where it is listed, if it shows anything, and where it names an event that cannot be
-- shown.
abbrev pub Fails : {V : Type 0} → ℕ → List ℕ → List ℕ → List (ℕ × V) → Type 0
Fails made fails ids changes = (IsListed made fails × (0 < length changes)) ⊎ (knows_all ids changes ≡ false)

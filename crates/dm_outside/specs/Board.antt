-- What stands on a board, where it tells that: for each event id a time or none, and whether it is cancelled or none.
use Rattle.std.specs.Prelude.{◌≡◌, ℕ, List, [], ◌∷◌, Option, None, Some, ⊤, if◌then◌else◌, ◌==◌}

-- the values with these changes made in turn
abbrev pub values_after : {V : Type 0} → (ℕ → Option V) → List (ℕ × V) → ℕ → Option V
values_after values [] event = values event
values_after values (change ∷ changes) event =
    values_after (λ other. if other == change.0 then Some change.1 else values other) changes event

abbrev pub times_after : (ℕ → Option ℕ) → List (ℕ × ℕ) → ℕ → Option ℕ
times_after times changes event = values_after times changes event

-- what was shown is shown still, but for these changes, made in turn
abbrev pub SetsValues : {V : Type 0} → Option (ℕ → Option V) → Option (ℕ → Option V) → List (ℕ × V) → Type 0
SetsValues None now changes = ⊤
SetsValues (Some before) None changes = ⊥
SetsValues (Some before) (Some now) changes = (event : ℕ) → now event ≡ values_after before changes event

abbrev pub Sets : Option (ℕ → Option ℕ) → Option (ℕ → Option ℕ) → List (ℕ × ℕ) → Type 0
Sets before now changes = SetsValues before now changes

-- all that was shown is shown still
abbrev pub KeepsValues : {V : Type 0} → Option (ℕ → Option V) → Option (ℕ → Option V) → Type 0
KeepsValues before now = SetsValues before now []

-- the answer for an event is what the board shows of it
abbrev pub IsShown : {V : Type 0} → Option (ℕ → Option V) → ℕ → Option V → Type 0
IsShown None event answer = ⊤
IsShown (Some values) event answer = answer ≡ values event

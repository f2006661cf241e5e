-- The rule of the word: what holds between any two steps on it.
use Rattle.std.specs.Prelude.{ℕ, ◌≡◌, ◌⊎◌, ◌≤◌, List, [], ◌∷◌, All, Contains, sum_by}
use mathlib.Core.Option.{some}
use lib.ListN.{get_elem?}
use Rattle.atomic_table.specs.Table.{State}
use Rattle.dm_bound.specs.Words.{nothing_looked}
use Rattle.dm_bound.specs.declared.view.View.{View}

-- the view of a seat that was joined away: it has no room, and knows nothing
abbrev pub spent : View
spent = record { start = 0; seats = 0; room = 0; lowered = []; looked = nothing_looked }

abbrev pub rooms : List View → ℕ
rooms views = sum_by (λ v. v.room) views

module _ (start seats : ℕ) where
  -- a view that is not spent: the word is at most each of its costs, and at most the least value that it has looked at
  pub record IsLive (best : ℕ) (v : View) : Type 0 where
    pub room : 1 ≤ v.room
    pub start_is : v.start ≡ start
    pub seats_is : v.seats ≡ seats
    pub costs : All (λ cost. best ≤ cost) v.lowered
    pub looked : best ≤ v.looked

  -- the word is its start or one of the listed costs
  abbrev pub IsReached : ℕ → List View → Type 0
  IsReached best views = (best ≡ start) ⊎ ((i : ℕ) × (v : View) × (get_elem? views i ≡ some v) × Contains v.lowered best)

  -- how all views stand to the word
  pub record Stands (best : ℕ) (views : List View) : Type 0 where
    pub each : (i : ℕ) (v : View) → get_elem? views i ≡ some v → (v ≡ spent) ⊎ IsLive best v
    pub below_start : best ≤ start
    pub reached : IsReached best views
    -- the rooms add up to the seats
    pub all_rooms : rooms views ≡ seats

  pub record Rule (s : State ℕ View) : Type 0 where
    pub best : ℕ
    pub word : s.words ≡ best ∷ []
    pub views : Stands best s.views

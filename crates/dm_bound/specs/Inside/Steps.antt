-- What each step on the word tells the seat that made it.
use Rattle.std.specs.Prelude.{ℕ, ◌≡◌, ◌+◌, ◌-◌, ◌≤◌, [], ◌∷◌, ◌++◌, min}
use Rattle.atomic_table.specs.Table.{Me, Step}
use Rattle.atomic_table.specs.declared.shared.Seat.{Seat}
use Rattle.dm_bound.specs.Words.{HandValue, lowest, nothing_looked}
use Rattle.dm_bound.specs.declared.view.View.{View}

-- the view of the first hand of a word
abbrev pub opening_view : ℕ → ℕ → View
opening_view start seats = record { start = start; seats = seats; room = seats; lowered = []; looked = nothing_looked }

-- a hand cut off from another: it has lowered and looked at nothing, and has one room
abbrev pub cut_off : View → View
cut_off v = record v { room = 1; lowered = []; looked = nothing_looked }

abbrev pub left_over : View → View
left_over v = record v { room = v.room - 1 }

-- two hands made one
abbrev pub joined : View → View → View
joined v w = record v { room = v.room + w.room; lowered = v.lowered ++ w.lowered; looked = min v.looked w.looked }

-- the view with one cost more
abbrev pub listing : View → ℕ → View
listing v cost = record v { lowered = v.lowered ++ cost ∷ [] }

-- the view after a look at a value
abbrev pub seeing : View → ℕ → View
seeing v found = record v { looked = min v.looked found }

abbrev pub Sat : Type 0
Sat = Me ℕ View

-- the seat lowered the word by what it gave
abbrev pub Lowered : Step ℕ → Sat → ℕ → Sat → Type 0
Lowered step me found me' = me' ≡ (listing me.0 step.first, me.1)

-- the seat found the word at a value, which is at most its start and the seat's own costs
abbrev pub Looked : Step ℕ → Sat → ℕ → Sat → Type 0
Looked step me found me' = (me' ≡ (seeing me.0 found, me.1)) × (found ≤ lowest me.0.start me.0.lowered)

-- how the seat of a hand is between calls
pub record IsAtRest (seat : Seat ℕ View) : Type 0 where
  pub room : 1 ≤ seat.me.0.room
  pub bare : seat.me.1 ≡ []

-- what contracts see of a hand
abbrev pub hand_value : Seat ℕ View → HandValue
hand_value s = record { word = s.table_id; start = s.me.0.start; lowered = s.me.0.lowered; looked = s.me.0.looked; room = s.me.0.room }

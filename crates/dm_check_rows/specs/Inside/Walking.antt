-- A walk along active activities that are named by their ids.
use Rattle.std.specs.Prelude.{ℕ, ◌≡◌, List, [], ◌∷◌, take, drop, IsTrue, Option, Some, None}
use Rattle.dm_base.specs.declared.ids.ActId.{ActId}
use Rattle.dm_graph.specs.Arcs.{Chain}
use Rattle.dm_network.specs.Net.{Net, activity_at, activity_place}
use Rattle.dm_network.specs.Held.{ids_of}
use Rattle.dm_rows.specs.Rows.{RowsValue}
use Rattle.dm_rows.specs.Active.{is_active, active_arcs}

-- the activity of this id is active and leads from one event to the other
pub record LeadsBy (net : Net) (rows : RowsValue) (from : ℕ) (id : ActId) (to : ℕ) : Type 0 where
  pub act : ℕ
  pub named : activity_place net id ≡ Some act
  pub active : IsTrue (is_active net rows act)
  pub leaves : (activity_at net act).tail ≡ from
  pub enters : (activity_at net act).head ≡ to

abbrev pub FollowsOn : Net → RowsValue → ℕ → ActId → Option ℕ → Type 0
FollowsOn net rows from id (Some to) = LeadsBy net rows from id to
FollowsOn net rows from id None = (to : ℕ) → LeadsBy net rows from id to → ⊥

-- the first of the ids names an activity that leaves this event
abbrev pub IsFirstTail : Net → List ActId → Option ℕ → Type 0
IsFirstTail net [] found = found ≡ None
IsFirstTail net (id ∷ ids) (Some start) = (act : ℕ) × (activity_place net id ≡ Some act) × ((activity_at net act).tail ≡ start)
IsFirstTail net (id ∷ ids) None = activity_place net id ≡ None

-- where the ids show a cycle, those behind the first n lead from the event back to the start
pub record LeadsBack (net : Net) (rows : RowsValue) (start : ℕ) (ids : List ActId) (n at : ℕ) : Type 0 where
  pub left : List ℕ
  pub leads : Chain (active_arcs net rows) at left start
  pub named : ids_of net left ≡ drop n ids

-- the first n of the ids lead from the start to an event
pub record HasWalked (net : Net) (rows : RowsValue) (start : ℕ) (ids : List ActId) (n at : ℕ) : Type 0 where
  pub places : List ℕ
  pub leads : Chain (active_arcs net rows) start places at
  pub named : ids_of net places ≡ take n ids

-- Which choices activities make, where they are held by the ids of activities.
use Rattle.std.specs.Prelude.{ℕ, ◌≡◌, ◌==◌, ◌<◌, if◌then◌else◌, List, Option, Some, None, option_map, position, slice_get}
use Rattle.std.specs.Option.{option_and_then}
use Rattle.dm_network.specs.Net.{Net, activity_at, is_change}
use Rattle.dm_network.specs.Pairs.{own_pair}
use Rattle.dm_rows.specs.declared.messages.Choice.{Choice}
use Rattle.dm_rows.specs.Decide.{change_choice, pair_choice}
use Rattle.dm_stretch.specs.declared.held.HeldFault.{HeldFault}
use Rattle.dm_stretch.specs.declared.held.HeldFault.TheVariants.{NoChoice, OutOfMemory}

-- the choice of the activity at a place: whether a change is kept, which event of a headway's pair goes first, or none
abbrev pub choice_at : Net → ℕ → Option Choice
choice_at net a =
    if is_change (activity_at net a).kind
    then Some (change_choice net a)
    else option_map (pair_choice net) (own_pair net (activity_at net a))

-- the choice of the activity with this id
abbrev pub choice_named : Net → ℕ → Option Choice
choice_named net id = option_and_then (choice_at net) (position (λ a. a.id.0 == id) net.activities)

-- there is no such activity, or it makes no choice, and all before it do
pub record IsFirstWithout (net : Net) (ids : List ℕ) (id : ℕ) : Type 0 where
  pub place : ℕ
  pub stands : slice_get ids place ≡ Some id
  pub none : choice_named net id ≡ None
  pub before : (k other : ℕ) → k < place → slice_get ids k ≡ Some other → choice_named net other ≡ None → ⊥

-- want of memory may come at any time
abbrev pub MakesNoChoice : Net → List ℕ → HeldFault → Type 0
MakesNoChoice net ids (NoChoice id) = IsFirstWithout net ids id
MakesNoChoice net ids OutOfMemory = Unit {0}

-- Decisions of free choices, paths of which one has one decision more, and what a decision holds and charges for.
use Rattle.std.specs.Prelude.{ℕ, ◌≡◌, ◌==◌, ◌&&◌, ◌<◌, ◌⊎◌, Bool, true, false, not, List, length, Option, Some, None, Contains}
use Rattle.dm_network.specs.Net.{Net, event_at, activity_at, pair_at}
use Rattle.dm_network.specs.Start.{first_event}
use Rattle.dm_rows.specs.declared.messages.Decision.{Decision}
use Rattle.dm_rows.specs.declared.messages.Choice.{Choice}
use Rattle.dm_rows.specs.declared.messages.Flip.{Flip}
use Rattle.dm_rows.specs.declared.messages.Flip.TheVariants.{Keep, Drop, First}
use Rattle.dm_rows.specs.declared.messages.Decision.TheVariants.{Keep as KeepIt, Drop as DropIt, First as FirstOf}
use Rattle.dm_rows.specs.Decide.{is_free_change, is_free_pair, change_choice, pair_choice, choice_of, free_choices_of}
use Rattle.dm_rows.specs.Relax.{is_same_choice, is_decided, is_of_pair, has_unmet_from}
use Rattle.dm_rows.specs.Resolve.{flip_named}
use Rattle.dm_rows.specs.Rows.{RowsValue}
use Rattle.dm_tree.specs.Plans.{is_set}

-- the change at a place kept or dropped
abbrev pub change_decision : Net → ℕ → Bool → Decision
change_decision net a true = KeepIt (activity_at net a).id
change_decision net a false = DropIt (activity_at net a).id

-- the small or the large event of the pair at a place first
abbrev pub pair_decision : Net → ℕ → Bool → Decision
pair_decision net p true = FirstOf (event_at net (pair_at net p).small).id (event_at net (pair_at net p).large).id
pair_decision net p false = FirstOf (event_at net (pair_at net p).large).id (event_at net (pair_at net p).small).id

-- the choice is free, and the path leaves it undecided
pub record IsOpen (net : Net) (rows : RowsValue) (path : List Decision) (choice : Choice) : Type 0 where
  pub free : Contains (free_choices_of net rows) choice
  pub undecided : is_decided path choice ≡ false

-- the other path has the decisions of this one and one more, which decides a choice that this one does not
pub record AddsDecision (path other : List Decision) (d : Decision) : Type 0 where
  pub kept : (e : Decision) → Contains path e → Contains other e
  pub added : Contains other d
  pub only : (e : Decision) → Contains other e → Contains path e ⊎ (e ≡ d)
  pub new : is_decided path (choice_of d) ≡ false

-- the choice is that of the activity, which is of this pair or of none
abbrev pub is_of : Net → Choice → ℕ → Option ℕ → Bool
is_of net c a None = is_same_choice c (change_choice net a)
is_of net c a (Some p) = is_same_choice c (pair_choice net p)

-- the decision is one of a free change or of a free pair, at its place
pub record IsOfChange (net : Net) (rows : RowsValue) (d : Decision) (a : ℕ) (kept : Bool) : Type 0 where
  pub is_activity : a < length net.activities
  pub free : is_free_change net rows a ≡ true
  pub is : d ≡ change_decision net a kept

pub record IsOfPair (net : Net) (rows : RowsValue) (d : Decision) (p : ℕ) (small : Bool) : Type 0 where
  pub is_pair : p < length net.pairs
  pub free : is_free_pair net rows p ≡ true
  pub is : d ≡ pair_decision net p small

abbrev pub IsFlipOf : Net → RowsValue → Decision → Flip → Type 0
IsFlipOf net rows d (Keep a) = IsOfChange net rows d a true
IsFlipOf net rows d (Drop a) = IsOfChange net rows d a false
IsFlipOf net rows d (First p small) = IsOfPair net rows d p small

-- the decision is not what the rows have
abbrev pub differs_from : Net → RowsValue → Decision → Bool
differs_from net rows d = not (is_set rows (flip_named net d))

-- the activity is a headway of the pair out of this event
abbrev pub is_directed : Net → ℕ → ℕ → ℕ → Bool
is_directed net p tail b = is_of_pair p (activity_at net b).pair && (activity_at net b).tail == tail

-- the activity is held where the decision stands, and not where its choice is undecided
abbrev pub is_held_by : Net → Flip → ℕ → Bool
is_held_by net (Keep a) b = b == a
is_held_by net (Drop a) b = false
is_held_by net (First p small) b = is_directed net p (first_event net p small) b

-- the activity is charged for where the decision stands, and not where its choice is undecided
abbrev pub is_charged_by : Flip → ℕ → Bool
is_charged_by (Keep a) b = false
is_charged_by (Drop a) b = b == a
is_charged_by (First p small) b = false

-- the activity or the pair of the decision is one of the network's
abbrev pub ReachesNet : Net → Flip → Type 0
ReachesNet net (Keep a) = a < length net.activities
ReachesNet net (Drop a) = a < length net.activities
ReachesNet net (First p small) = p < length net.pairs

-- neither direction of the pair has all its headways met
abbrev pub is_unmet_pair : Net → RowsValue → List ℕ → ℕ → Bool
is_unmet_pair net rows x p = has_unmet_from net rows x p (pair_at net p).small && has_unmet_from net rows x p (pair_at net p).large

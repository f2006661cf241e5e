-- What a worker finds at a path, and what its hand of the word then tells.
use Rattle.std.specs.Prelude.{ℕ, ◌≡◌, ◌-◌, ◌^◌, ◌≤◌, nat_eq, List, [], ◌∷◌, ◌++◌, min, Option, None, if◌then◌else◌}
use Rattle.dm_network.specs.Net.{Net}
use Rattle.dm_rows.specs.declared.messages.Choice.{Choice}
use Rattle.dm_rows.specs.declared.messages.Decision.{Decision}
use Rattle.dm_rows.specs.Rows.{RowsValue}
use Rattle.dm_bound.specs.Words.{HandValue, lowest, nothing_looked}
use Rattle.dm_traverse.specs.Steps.{IsOutcome, IsFoundThere, IsByHint}
use Rattle.dm_traverse.specs.declared.steps.Outcome.{Outcome}
use Rattle.dm_traverse.specs.declared.steps.Outcome.TheVariants.{Cycle, Pruned, Solved, Branch}

-- the cost from which on the value of a word prunes: the greatest value stands for a cost that prunes nothing
abbrev pub limit_of : ℕ → ℕ
limit_of seen = if nat_eq seen nothing_looked then 2 ^ 128 - 1 else seen

-- a hand that has looked at a value; and one that lists the cost of what is solved
abbrev pub having_looked : HandValue → ℕ → HandValue
having_looked hand seen = record hand { looked = min hand.looked seen }

abbrev pub telling : HandValue → Outcome → HandValue
telling hand Cycle = hand
telling hand (Pruned c) = hand
telling hand (Solved c choices) = record hand { lowered = hand.lowered ++ min c nothing_looked ∷ [] }
telling hand (Branch c choice) = hand

-- the word was looked at once, and the outcome is what a step finds where the best choices cost what was seen
pub record IsSeen (net : Net) (rows : RowsValue) (path : List Decision) (penalty : ℕ) (old new : HandValue)
    (seen : ℕ) (outcome : Outcome) : Type 0 where
  pub is : IsOutcome net rows path penalty (limit_of seen) outcome
  pub hand : new ≡ telling (having_looked old seen) outcome
  pub low : seen ≤ lowest old.start old.lowered

-- the same with a hint: where it branches, the choice goes by the hint
pub record IsSeenBy (net : Net) (rows : RowsValue) (path : List Decision) (penalty : ℕ) (hint : Option Choice) (old new : HandValue)
    (seen : ℕ) (outcome : Outcome) : Type 0 where
  pub is : IsFoundThere net rows path penalty (limit_of seen) outcome
  pub first : hint ≡ None → IsOutcome net rows path penalty (limit_of seen) outcome
  pub by_hint : IsByHint net rows path hint outcome
  pub hand : new ≡ telling (having_looked old seen) outcome
  pub low : seen ≤ lowest old.start old.lowered

pub record IsExpanded (net : Net) (rows : RowsValue) (path : List Decision) (penalty : ℕ) (old new : HandValue)
    (outcome : Outcome) : Type 0 where
  pub seen : ℕ
  pub found : IsSeen net rows path penalty old new seen outcome

-- the word was looked at once, at no more than a look tells, and nothing else was told
pub record HasOnlyLooked (old new : HandValue) : Type 0 where
  pub seen : ℕ
  pub hand : new ≡ having_looked old seen
  pub low : seen ≤ lowest old.start old.lowered

-- a hand of the same word, with the same room
pub record IsSameHand (old new : HandValue) : Type 0 where
  pub word : new.word ≡ old.word
  pub start : new.start ≡ old.start
  pub room : new.room ≡ old.room

-- Parts that are true, added up.
use Rattle.std.specs.Prelude.{ℕ, ◌≡◌, ◌≤◌, ◌*◌, ◌^◌, Bool, List, length, sum_by, All}
use Rattle.dm_tree.specs.Plans.{Task}
use Rattle.dm_parts.specs.declared.parts.Part.{Part}
use Rattle.dm_parts.specs.Parts.{IsTruePart, shares_of}
use Rattle.dm_parts.specs.Sizes.{ids_of, most_ids}
use Rattle.dm_network.specs.Net.{Net}
use Rattle.dm_parts.specs.Shares.{IsShare, AreApart}
use Rattle.dm_part_plans.specs.Inside.Claims.{AreTaken, IsSmall}

-- The parts are true, their terms are taken, and their bounds, nodes and ids are added up.
pub record AreGathered (task : Task) (arrivals changes : List Bool) (parts : List Part) (bound nodes ids : ℕ) : Type 0 where
  pub are_true : All (IsTruePart task) parts
  pub taken : AreTaken task.net arrivals changes (shares_of parts)
  pub bounds : bound ≡ sum_by (λ part. part.bound) parts
  pub counted : nodes ≡ sum_by (λ part. length part.tree) parts
  pub named : ids ≡ ids_of parts
  pub few : nodes ≤ task.budget
  pub few_ids : ids ≤ most_ids
  pub each_has_some : length parts ≤ nodes
  pub low : bound ≤ length parts * 2 ^ 100
  pub small : All (λ part. IsSmall part.share) parts

-- few parts, each of a small share of the network, that have no term in common
pub record AreSmall (net : Net) (parts : List Part) : Type 0 where
  pub few : length parts ≤ 16384
  pub shares : All (λ part. IsShare net part.share) parts
  pub small : All (λ part. IsSmall part.share) parts
  pub apart : AreApart (shares_of parts)

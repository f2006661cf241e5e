-- What is told of a node of a part, by the least times of the relaxed problem of its path.
use Rattle.std.proofs.Common.{◌≡◌, ℕ, Bool, true, false, not, List, eqb, eqb-true, eq-eqb, refl, sym, ap, ◌∙◌}
use Rattle.std.proofs.lemmas.Bool.{both_ways, not-true}
use Rattle.dm_network.specs.Net.{Net}
use Rattle.dm_network.specs.Start.{IsNetwork}
use Rattle.dm_rows.specs.declared.messages.Choice.{Choice}
use Rattle.dm_rows.specs.declared.messages.Decision.{Decision}
use Rattle.dm_rows.specs.Relax.{is_decided}
use Rattle.dm_rows.specs.Rows.{RowsValue}
use Rattle.dm_rows.specs.Sides.{IsOrdered}
use Rattle.dm_tree.specs.declared.forms.Node.{Node}
use Rattle.dm_tree.specs.declared.forms.Node.TheVariants.{Inner, Cycle, Bound, Open, Hole}
use Rattle.dm_tree.specs.Plans.{whole_task, CostsRelaxed}
use Rattle.dm_tree.specs.Relaxed.{IsRelaxedLeast, HasNoRelaxedCycle, relaxed_cost_of}
use Rattle.dm_paths.specs.Decisions.{IsOpen}
use Rattle.dm_parts.specs.declared.shares.Share.{Share}
use Rattle.dm_parts.specs.Parts.{task_within, IsTrueBranch}
use Rattle.dm_parts.specs.Shares.{within}
use Rattle.dm_parts.specs.Weights.{DifferInWeights}
use Rattle.dm_parts.proofs.Alike.{back, in_common, within_differs}
use Rattle.dm_check_rows.specs.Claims.{Tells}
use Rattle.dm_check_plans.specs.RelaxedProblems.{HasRelaxedCycle}
use Rattle.dm_check_plans.specs.Visiting.{IsNextOpen}
use Rattle.dm_check_plans.proofs.Told.{least_has_none, one_cost}
use Rattle.dm_check_parts.specs.Inside.Nodes.{IsTruePartNode, is_cycle}

module _ (net : Net) (rows : RowsValue) (penalty budget : ℕ) (share : Share) (path : List Decision) where
  to_share : DifferInWeights net (within net share)
  to_share = within_differs net share

  from_share : DifferInWeights (within net share) net
  from_share = back net (within net share) to_share

  -- times are least within the share exactly where they are so in the network
  least_within : (x : List ℕ) → IsRelaxedLeast net rows path x → IsRelaxedLeast (within net share) rows path x
  least_within x = (in_common net (within net share) to_share).relaxed_least rows path x

  least_without : (x : List ℕ) → IsRelaxedLeast (within net share) rows path x → IsRelaxedLeast net rows path x
  least_without x = (in_common (within net share) net from_share).relaxed_least rows path x

  costs_none : IsNetwork net → HasRelaxedCycle net rows path → (c : ℕ) → CostsRelaxed (task_within (whole_task net rows penalty budget) share) path c → ⊥
  costs_none network some c t = least_has_none net rows penalty budget path network t.times (least_without t.times t.least) some.cycle some.is_cycle

  -- a node over a cycle
  pub cycle_told : IsNetwork net → HasRelaxedCycle net rows path → (n : Node) (b : Bool) → b ≡ is_cycle n → Tells (IsTruePartNode (whole_task net rows penalty budget) share path n) b
  cycle_told network some (Inner c) true e = cc
  cycle_told network some (Inner c) false e = λ t. t.no_cycle some.cycle some.is_cycle
  cycle_told network some Cycle true e = record { cycle = some.cycle; is_cycle = some.is_cycle }
  cycle_told network some Cycle false e = cc
  cycle_told network some (Bound c) true e = cc
  cycle_told network some (Bound c) false e = λ t. costs_none network some c t
  cycle_told network some (Open c) true e = cc
  cycle_told network some (Open c) false e = λ t. t
  cycle_told network some Hole true e = cc
  cycle_told network some Hole false e = λ t. t

  -- a leaf that carries a cost
  pub leaf_told : (times : List ℕ) → IsRelaxedLeast net rows path times → (cost c : ℕ) (b : Bool) → cost ≡ relaxed_cost_of (within net share) rows path times penalty → b ≡ eqb cost c →
      Tells (CostsRelaxed (task_within (whole_task net rows penalty budget) share) path c) b
  leaf_told times least cost c true is e = record { times = times; least = least_within times least; cost = sym (eqb-true cost c (sym e)) ∙ is }
  leaf_told times least cost c false is e = λ t.
      both_ways (eqb cost c) (sym e) (eq-eqb cost c (is ∙ sym (one_cost (within net share) rows penalty budget path times (least_within times least) c t)))

  -- a choice
  pub branch_told : HasNoRelaxedCycle net rows path → (c : Choice) (b : Bool) → Tells (IsOpen net rows path c) b → Tells (IsTrueBranch (whole_task net rows penalty budget) path c) b
  branch_told none c true o = record { no_cycle = none; allowed = o.free; undecided = ap not o.undecided }
  branch_told none c false closed = λ t. closed (record { free = t.allowed; undecided = not-true (is_decided path c) t.undecided })

  pub next_open : (n : Node) → ((c : Choice) → n ≡ Inner c → IsOrdered c) → IsTruePartNode (whole_task net rows penalty budget) share path n → IsNextOpen net rows path n
  next_open (Inner c) ordered t = (record { free = t.allowed; undecided = not-true (is_decided path c) t.undecided }, ordered c refl)
  next_open Cycle ordered t = tt
  next_open (Bound c) ordered t = tt
  next_open (Open c) ordered t = tt
  next_open Hole ordered t = absurd t

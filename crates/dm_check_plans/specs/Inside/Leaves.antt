-- What the leaves of a tree carry, by place.
use Rattle.std.specs.Prelude.{ℕ, ◌≡◌, ◌==◌, ◌<◌, nat_lt, Bool, true, false, List, length, slice_index_or}
use Rattle.dm_tree.specs.declared.forms.Node.{Node}
use Rattle.dm_tree.specs.declared.forms.Node.TheVariants.{Bound, Open, Hole}
use Rattle.dm_check_plans.specs.declared.leaves.Wanted.{Wanted}
use Rattle.dm_check_plans.specs.declared.leaves.Wanted.TheVariants.{Open as OpenLeaf, At, Below}

abbrev pub is_open : Node → Bool
is_open (Open c) = true
is_open _ = false

-- the node carries this cost, a smaller one
abbrev pub is_at : ℕ → Node → Bool
is_at cost (Bound c) = c == cost
is_at cost (Open c) = c == cost
is_at cost _ = false

abbrev pub is_below : ℕ → Node → Bool
is_below cost (Bound c) = nat_lt c cost
is_below cost (Open c) = nat_lt c cost
is_below cost _ = false

-- the node is what is wanted
abbrev pub meets : Wanted → Node → Bool
meets OpenLeaf = is_open
meets (At cost) = is_at cost
meets (Below cost) = is_below cost

abbrev pub node_at : List Node → ℕ → Node
node_at nodes k = slice_index_or nodes k Hole

-- some node meets the test; none of the first n does
pub record SomeNode (test : Node → Bool) (nodes : List Node) : Type 0 where
  pub place : ℕ
  pub within : place < length nodes
  pub meets : test (node_at nodes place) ≡ true

abbrev pub NoneNode : (Node → Bool) → List Node → ℕ → Type 0
NoneNode test nodes n = (k : ℕ) → k < n → test (node_at nodes k) ≡ false

-- Decisions of free choices by place, and two paths of which the second has one decision more.
use Rattle.std.specs.Prelude.{ℕ, ◌≤◌, drop, Bool, false, List, length, Option, Some, None, Contains, All, map, slice_get}
use Rattle.dm_network.specs.Net.{Net}
use Rattle.dm_rows.specs.declared.messages.Decision.{Decision}
use Rattle.dm_rows.specs.declared.messages.Choice.{Choice}
use Rattle.dm_rows.specs.Decide.{choice_of, free_choices_of}
use Rattle.dm_rows.specs.Relax.{is_same_choice}
use Rattle.dm_rows.specs.Rows.{RowsValue}
use Rattle.dm_tree.specs.Plans.{AreSomeOf}

-- ---- the choices of a plan

-- each decision decides a free choice
abbrev pub AreFree : Net → RowsValue → List Decision → Type 0
AreFree net rows decisions = All (λ d. Contains (free_choices_of net rows) (choice_of d)) decisions

-- the decision at a place decides the choice
abbrev pub decides : Option Decision → Choice → Bool
decides None choice = false
decides (Some d) choice = is_same_choice (choice_of d) choice

abbrev pub is_next : List Decision → ℕ → Choice → Bool
is_next decisions next choice = decides (slice_get decisions next) choice

-- The decisions are some of the choices allowed exactly where those left are of those that are left.
pub record IsLeftToChoose (allowed : List Choice) (decisions : List Decision) (i next : ℕ) : Type 0 where
  pub all : AreSomeOf (drop i allowed) (map choice_of (drop next decisions)) → AreSomeOf allowed (map choice_of decisions)
  pub left : AreSomeOf allowed (map choice_of decisions) → AreSomeOf (drop i allowed) (map choice_of (drop next decisions))
  pub within : next ≤ length decisions

-- Which decisions of a list may still be entered.
use Rattle.std.specs.Prelude.{Bool, List, filter}
use Rattle.std.specs.List.{list_any}
use Rattle.dm_network.specs.Net.{Net}
use Rattle.dm_rows.specs.declared.messages.Decision.{Decision}
use Rattle.dm_rows.specs.Rows.{RowsValue}
use Rattle.dm_rows.specs.Decide.{free_choices_of, choice_of}
use Rattle.dm_rows.specs.Relax.{is_same_choice}

-- the decision decides a free choice
abbrev pub is_free_decision : Net → RowsValue → Decision → Bool
is_free_decision net rows d = list_any (is_same_choice (choice_of d)) (free_choices_of net rows)

-- the decisions of a list that decide free choices, in their order
abbrev pub free_among : Net → RowsValue → List Decision → List Decision
free_among net rows decisions = filter (is_free_decision net rows) decisions

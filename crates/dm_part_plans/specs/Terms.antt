-- How many terms a cost has.
use Rattle.std.specs.Prelude.{ℕ, ◌+◌, length}
use Rattle.dm_network.specs.Net.{Net}
use Rattle.dm_part_bounds.specs.OnePart.{all_terms}

-- all arrivals and all changes of a network
abbrev pub terms_of : Net → ℕ
terms_of net = length (all_terms net).arrivals + length (all_terms net).changes

-- How a head is read from its front: a function for each function of the code.
use Rattle.std.specs.Prelude.{ℕ, List, [], ◌∷◌, codes, Option, Some, None, option_and_then}
use Rattle.std.specs.Option.{option_map}
use Rattle.dm_text.specs.Inside.Parts.{behind}
use Rattle.dm_feed.specs.Parts.{largest_id, largest_value}
use Rattle.dm_cert.specs.Inside.PlanLines.{number_behind}
use Rattle.dm_restore.specs.declared.heads.Head.{Head}

abbrev pub head_of : ℕ → ℕ → ℕ → Head
head_of penalty plans feeds = record { penalty = penalty; plans = plans; feeds = feeds }

abbrev pub feeds_in : ℕ → ℕ → List ℕ → Option (Head × List ℕ)
feeds_in penalty plans line = option_map (λ r. (head_of penalty plans r.0, r.1)) (number_behind largest_id (codes "\nfeeds ") line)

abbrev pub plans_in : ℕ → List ℕ → Option (Head × List ℕ)
plans_in penalty line = option_and_then (λ q. feeds_in penalty q.0 q.1) (number_behind largest_id (codes "\nplans ") line)

abbrev pub numbers_in : List ℕ → Option (Head × List ℕ)
numbers_in content = option_and_then (λ p. plans_in p.0 p.1) (number_behind largest_value (codes "dm-store 1\npenalty ") content)

-- the head, where nothing stands behind its last line end
abbrev pub at_end : Head → Option (List ℕ) → Option Head
at_end head (Some []) = Some head
at_end head (Some (c ∷ rest)) = None
at_end head None = None

abbrev pub head_in : List ℕ → Option Head
head_in content = option_and_then (λ p. at_end p.0 (behind (codes "\n") p.1)) (numbers_in content)

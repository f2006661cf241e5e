use Rattle.std.proofs.Common.{◌≡◌, ◌+◌, length}
use Rattle.dm_words.specs.Asked.{names_in}
use Rattle.dm_store_text.proofs.text.count.Given as goal

-- the names so far, and those that are left
abbrev pub invariant-loop-others : goal.invariant-loop-others
invariant-loop-others l = l.count + length (names_in l.rest) ≡ length (names_in l.names)

abbrev pub decreases-loop-others : goal.decreases-loop-others
decreases-loop-others l = length (names_in l.rest)

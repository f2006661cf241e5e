use Rattle.std.proofs.Common.{◌≡◌, ◌++◌, length, map}
use Rattle.dm_words.specs.Asked.{names_in}
use Rattle.dm_commands.proofs.feeds.names_of.Given as goal

-- the names so far, and those that are left
abbrev pub invariant-loop-name : goal.invariant-loop-name
invariant-loop-name l = map (λ name. name.now) l.names.items ++ names_in l.rest ≡ names_in l.feeds

abbrev pub decreases-loop-name : goal.decreases-loop-name
decreases-loop-name l = length (names_in l.rest)

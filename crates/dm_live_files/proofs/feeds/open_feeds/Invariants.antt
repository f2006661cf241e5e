use Rattle.std.proofs.Common.{◌≡◌, ◌+◌, length}
use Rattle.dm_words.specs.Asked.{names_in}
use Rattle.dm_live_files.proofs.feeds.open_feeds.Given as goal

-- the feeds so far, and the names that are left
abbrev pub invariant-loop-name : goal.invariant-loop-name
invariant-loop-name g l = length l.feeds.items + length (names_in l.rest) ≡ length (names_in l.names)

abbrev pub decreases-loop-name : goal.decreases-loop-name
decreases-loop-name g l = length (names_in l.rest)

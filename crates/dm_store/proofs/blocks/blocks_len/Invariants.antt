use Rattle.std.proofs.Common.{◌≡◌, ◌++◌, ℕ, List, length}
use Rattle.std.specs.List.{flat_map}
use Rattle.dm_store.specs.Blocks.{block}
use Rattle.dm_store.proofs.blocks.blocks_len.Given as goal

abbrev pub invariant-loop-more : goal.invariant-loop-more
invariant-loop-more l = (before : List (List ℕ)) × (l.file ≡ flat_map block before ++ l.rest)

abbrev pub decreases-loop-more : goal.decreases-loop-more
decreases-loop-more l = length l.rest

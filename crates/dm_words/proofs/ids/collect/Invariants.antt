use Rattle.std.proofs.Common.{◌≡◌, ◌++◌, length}
use Rattle.std.specs.Prelude.{option_map}
use Rattle.dm_lintim.specs.Pieces.{pieces_left}
use Rattle.dm_words.specs.Inside.Pieces.{AreAllIds, numbers_left}
use Rattle.dm_words.proofs.ids.collect.Given as goal

abbrev pub invariant-loop-id : goal.invariant-loop-id
invariant-loop-id l =
    AreAllIds (pieces_left (option_map (λ x. x.now) l.left))
    × (l.ids.items ++ numbers_left (option_map (λ x. x.now) l.left) ≡ numbers_left (option_map (λ x. x.now) l.fn.all))

abbrev pub decreases-loop-id : goal.decreases-loop-id
decreases-loop-id l = length (numbers_left (option_map (λ x. x.now) l.left))

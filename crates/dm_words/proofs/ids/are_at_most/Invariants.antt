use Rattle.std.proofs.Common.{◌≡◌, length}
use Rattle.std.specs.Prelude.{nat_le}
use Rattle.std.specs.Prelude.{option_map}
use Rattle.dm_lintim.specs.Pieces.{pieces_left}
use Rattle.dm_words.specs.Inside.Pieces.{AreAllIds, numbers_left}
use Rattle.dm_words.proofs.ids.are_at_most.Given as goal

abbrev pub invariant-loop-after : goal.invariant-loop-after
invariant-loop-after l =
    AreAllIds (pieces_left (option_map (λ x. x.now) l.left))
    × (nat_le (length (numbers_left (option_map (λ x. x.now) l.fn.all))) l.fn.most ≡ nat_le (length (numbers_left (option_map (λ x. x.now) l.left))) l.room)

abbrev pub decreases-loop-after : goal.decreases-loop-after
decreases-loop-after l = length (numbers_left (option_map (λ x. x.now) l.left))

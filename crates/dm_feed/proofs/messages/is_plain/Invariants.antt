use Rattle.std.proofs.Common.{◌≡◌, eqb, length}
use Rattle.std.specs.List.{slice_split}
use Rattle.dm_feed.specs.Inside.Reading.{is_plain}
use Rattle.dm_feed.proofs.messages.is_plain.Given as goal

abbrev pub invariant-loop-word : goal.invariant-loop-word
invariant-loop-word l = is_plain l.rest ≡ is_plain l.bytes

abbrev pub decreases-loop-word : goal.decreases-loop-word
decreases-loop-word l = length (slice_split (λ b. eqb b 32) l.rest)

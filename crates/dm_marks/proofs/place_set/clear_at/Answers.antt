use Rattle.dm_marks.proofs.Listing.{left_behind, none_left}
use Rattle.std.proofs.Common.{subst, replicate, ◌≡◌, false, ℕ}
use Rattle.dm_marks.proofs.place_set.clear_at.Goals as goal

pub loop-place-preserved : goal.loop-place-preserved
loop-place-preserved c = left_behind c.loop-place.flags c.args.places.now c.loop-place.place-index c.loop-place-test.true c.loop-place.invariant

pub returns : goal.returns
returns c = subst (λ (n : ℕ). c.loop-place.flags ≡ replicate n false) c.loop-place.auto.flags
    (none_left c.loop-place.flags c.args.places.now c.loop-place.place-index c.loop-place-test.false c.loop-place.invariant)

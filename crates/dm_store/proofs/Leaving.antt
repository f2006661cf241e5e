-- Where a crash after calls leaves an image, it left one before each of them.
use Rattle.std.proofs.Common.{ℕ, zero, suc, List, [], ◌∷◌, take}
use Rattle.dm_store.specs.Calls.{Image, After}
use Rattle.dm_store.specs.Memory.{step_of, outcomes}
use Rattle.dm_store.specs.declared.memory.Done.{Done}

left_at_first : (calls : List Done) (before : Image → Type 0) (image : Image) → outcomes before calls image → (first : Image) × before first
left_at_first [] before image left = (image, left)
left_at_first (call ∷ calls) before image left =
    let one = left_at_first calls (After (step_of call) before) image left in
    (one.1.from, one.1.was)

pub left_before : (calls : List Done) (count : ℕ) (before : Image → Type 0) (image : Image) → outcomes before calls image →
    (earlier : Image) × outcomes before (take count calls) earlier
left_before [] zero before image left = (image, left)
left_before [] (suc count) before image left = (image, left)
left_before (call ∷ calls) zero before image left = left_at_first (call ∷ calls) before image left
left_before (call ∷ calls) (suc count) before image left = left_before calls count (After (step_of call) before) image left

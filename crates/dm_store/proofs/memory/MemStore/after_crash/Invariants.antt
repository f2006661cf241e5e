use Rattle.std.proofs.Common.{take, map}
use Rattle.dm_store.specs.Memory.{outcomes, first_image, image_of}
use Rattle.dm_store.proofs.memory.MemStore.after_crash.Given as goal

abbrev pub invariant-loop-place : goal.invariant-loop-place
invariant-loop-place l =
    outcomes (first_image l.self.first.items (map (λ reply. reply.items) l.self.replies.items)) (take l.place l.self.done.items) (image_of l.journal.items l.replies.items)

use Rattle.std.proofs.Common.{◌≡◌, take, map}
use Rattle.dm_store.proofs.memory.copied.Given as goal

abbrev pub invariant-loop-reply : goal.invariant-loop-reply
invariant-loop-reply l = map (λ copy. copy.items) l.copies.items ≡ map (λ reply. reply.items) (take l.reply-index l.replies)

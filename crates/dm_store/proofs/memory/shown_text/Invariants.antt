use Rattle.std.proofs.Common.{◌≡◌, [], take, map, slice_index_or}
use Rattle.dm_store.specs.Memory.{shown_after}
use Rattle.dm_store.proofs.memory.shown_text.Given as goal

abbrev pub invariant-loop-call : goal.invariant-loop-call
invariant-loop-call l =
    l.text.items ≡ slice_index_or (shown_after (map (λ reply. reply.items) l.replies) (take l.call-index l.done)) l.feed []

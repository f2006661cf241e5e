use Rattle.std.proofs.Common.{◌<◌, List, ℕ, [], length, take, map, sym, ◌∙◌, ap, arith, slice_index_or, Vec, Global}
use Rattle.std.proofs.lemmas.List.{length-map}
use Rattle.dm_store.specs.Memory.{shown_after}
use Rattle.dm_store.proofs.Kept.{shown_one_more, length_after}
use Rattle.dm_store.proofs.memory.shown_text.Goals as goal

pub loop-call-preserved : goal.loop-call-preserved
loop-call-preserved c =
    let first : List (List ℕ) = map (λ (reply : Vec ℕ Global). reply.items) c.args.replies.now in
    let shown : List (List ℕ) = shown_after first (take c.loop-call.call-index c.args.done.now) in
    let low : c.loop-call.call-index < length c.args.done.now = omega arith in
    let some : c.args.feed < length shown = omega (arith, length_after first (take c.loop-call.call-index c.args.done.now), length-map c.args.replies.now (λ (reply : Vec ℕ Global). reply.items), c.requires) in
    c.in_ok-add_shown.ensures shown some c.loop-call.invariant
    ∙ ap (λ (lists : List (List ℕ)). slice_index_or lists c.args.feed []) (sym (shown_one_more first c.args.done.now c.loop-call.call-index c.call-item.result low c.call-item.is))

use Rattle.std.proofs.Common.{◌<◌, length, ◌∙◌, arith}
use Rattle.std.proofs.lemmas.List.{get_or_default}
use Rattle.dm_store.specs.Memory.{first_image, image_of, was_shown_of}
use Rattle.dm_store.proofs.Kept.{one_more}
use Rattle.dm_store.proofs.memory.MemStore.after_crash.Goals as goal

pub loop-place-preserved : goal.loop-place-preserved
loop-place-preserved c =
    let low : c.loop-place.place < length c.args.self.now.done.items = omega (arith, c.loop-place-test.true, c.len-place-end.ensures) in
    one_more (first_image c.args.self.now.first.items (was_shown_of c.args.self.now)) c.args.self.now.done.items c.loop-place.place c.index.result.now
    (image_of c.loop-place.journal.items c.loop-place.replies.items) (image_of c.take_step.new.journal.items c.take_step.new.replies.items) low
    (c.index.ensures ∙ get_or_default c.args.self.now.done.items c.loop-place.place _ _ low) c.loop-place.invariant c.in_ok-take_step.ensures

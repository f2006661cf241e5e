use Rattle.std.proofs.Common.{◌≡◌, length, ◌∙◌, ap}
use Rattle.std.specs.List.{flat_map}
use Rattle.std.proofs.lemmas.List.{take_rest}
use Rattle.dm_store.specs.Blocks.{block, refusal}
use Rattle.dm_store.proofs.Crash.{cut_done, end_is}
use Rattle.dm_store.proofs.blocks.refusal.Goals as goal

pub returns-clause-told : goal.returns-clause-told
returns-clause-told c = λ contents stands.
    let there : c.blocks_len-end.result ≡ length (flat_map block contents) = c.blocks_len-end.ensures.length contents stands in
    let front = cut_done contents c.args.file.now stands.end stands.split stands.is_end c.blocks_len-end.result there in
    let back = take_rest c.args.file.now c.blocks_len-end.result
    ∙ end_is contents c.args.file.now stands.end stands.split stands.is_end c.blocks_len-end.result there in
    c.end_refusal.ensures.told contents front ∙ ap (refusal contents) back

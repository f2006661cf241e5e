use Rattle.std.proofs.Common.{◌≡◌, length, refl, sym, ◌∙◌, ap}
use Rattle.std.specs.List.{flat_map}
use Rattle.std.proofs.lemmas.List.{take_rest}
use Rattle.dm_store.specs.Blocks.{block, refusal}
use Rattle.dm_store.proofs.Crash.{cut_done, end_is}
use Rattle.dm_store.proofs.Sequences.{is_refusal}
use Rattle.dm_store.proofs.journal.judged.Goals as goal

pub returns-in-Some-clause-judged : goal.returns-in-Some-clause-judged
returns-in-Some-clause-judged c = λ contents stands.
    let there : c.blocks_len-end.result ≡ length (flat_map block contents) =
    c.blocks_len-end.ensures.length contents (record { end = stands.end; split = c.deref.ensures.value ∙ stands.split; is_end = stands.is_end }) in
    let front = cut_done contents c.deref-2.result.now stands.end (c.deref-2.ensures.value ∙ stands.split) stands.is_end c.blocks_len-end.result there in
    let back = take_rest c.deref-3.result.now c.blocks_len-end.result
    ∙ end_is contents c.deref-3.result.now stands.end (c.deref-3.ensures.value ∙ stands.split) stands.is_end c.blocks_len-end.result there in
    is_refusal contents stands.end c.in-Some.error c.in-Some.ensures.known (sym (ap (refusal contents) back) ∙ sym (c.in-Some.ensures.told contents front))

pub returns-in-None-clause-judged : goal.returns-in-None-clause-judged
returns-in-None-clause-judged c = λ contents stands.
    let there : c.blocks_len-end.result ≡ length (flat_map block contents) =
    c.blocks_len-end.ensures.length contents (record { end = stands.end; split = c.deref.ensures.value ∙ stands.split; is_end = stands.is_end }) in
    let front = cut_done contents c.deref-2.result.now stands.end (c.deref-2.ensures.value ∙ stands.split) stands.is_end c.blocks_len-end.result there in
    let back = take_rest c.deref-3.result.now c.blocks_len-end.result
    ∙ end_is contents c.deref-3.result.now stands.end (c.deref-3.ensures.value ∙ stands.split) stands.is_end c.blocks_len-end.result there in
    (refl, there, sym (ap (refusal contents) back) ∙ sym (c.in-None.ensures.told contents front))

use Rattle.std.proofs.Common.{◌≡◌, ℕ, List, length, map, refl, sym, ◌∙◌, ap, subst, rules, slice_set}
use Rattle.std.proofs.lemmas.Result.{on_ok_weaker}
use Rattle.dm_store.specs.Calls.{Torn, shown_behind}
use Rattle.dm_store.specs.Memory.{step_of, image_of}
use Rattle.dm_store.specs.declared.memory.Done.{Done}
use Rattle.dm_store.specs.declared.memory.Done.TheVariants.{Wrote, CutTo, Showed, Renewed}
use Rattle.dm_store.proofs.memory.take_step.Goals as goal

-- a step on the journal leaves what is shown, and one on the reply files the journal
pub returns-in-Wrote : goal.returns-in-Wrote
returns-in-Wrote c =
    let is : c.args.call.now ≡ Wrote c.in-Wrote.at c.in-Wrote.bytes = search rules in
    let bytes : c.deref.result.now ≡ c.in-Wrote.bytes.items = search rules in
    on_ok_weaker c.take_write.result
    (λ torn. subst (λ (call : Done). step_of call (image_of c.args.journal.now.items c.args.replies.now.items) (image_of c.take_write.new.journal.items c.args.replies.now.items)) (sym is)
    (record { journal = subst (λ (xs : List ℕ). Torn c.in-Wrote.at (length xs) c.args.journal.now.items c.take_write.new.journal.items) bytes torn; same = refl }))
    c.take_write.ensures

pub returns-in-CutTo : goal.returns-in-CutTo
returns-in-CutTo c =
    let is : c.args.call.now ≡ CutTo c.in-CutTo.len = search rules in
    subst (λ (call : Done). step_of call (image_of c.args.journal.now.items c.args.replies.now.items) (image_of c.take_cut.new.journal.items c.args.replies.now.items)) (sym is)
    (record { journal = c.take_cut.ensures; same = refl })

pub returns-in-Showed : goal.returns-in-Showed
returns-in-Showed c =
    let is : c.args.call.now ≡ Showed c.in-Showed.feed c.in-Showed.bytes = search rules in
    let bytes : c.deref-in-Showed.result.now ≡ c.in-Showed.bytes.items = search rules in
    on_ok_weaker c.take_show.result
    (λ shown. subst (λ (call : Done). step_of call (image_of c.args.journal.now.items c.args.replies.now.items) (image_of c.args.journal.now.items c.take_show.new.replies.items)) (sym is)
    (record { showing = shown ∙ ap (shown_behind (map (λ reply. reply.items) c.args.replies.now.items) c.in-Showed.feed) bytes; same = refl }))
    c.take_show.ensures

pub returns-in-Renewed : goal.returns-in-Renewed
returns-in-Renewed c =
    let is : c.args.call.now ≡ Renewed c.in-Renewed.feed c.in-Renewed.text = search rules in
    let text : c.deref-in-Renewed.result.now ≡ c.in-Renewed.text.items = search rules in
    on_ok_weaker c.take_renew.result
    (λ shown. subst (λ (call : Done). step_of call (image_of c.args.journal.now.items c.args.replies.now.items) (image_of c.args.journal.now.items c.take_renew.new.replies.items)) (sym is)
    (record { showing = shown ∙ ap (slice_set (map (λ reply. reply.items) c.args.replies.now.items) c.in-Renewed.feed) text; same = refl }))
    c.take_renew.ensures

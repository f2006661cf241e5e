-- The text of a store that holds a true book is refused for want of room alone.
use Rattle.std.proofs.Common.{ℕ, List, ⊎_elim, length, ◌∙◌, ap}
use Rattle.dm_input.specs.Input.{Told}
use Rattle.dm_store_text.specs.Asked.{setting_for}
use Rattle.dm_store_text.specs.Lines.{refusal_line}
use Rattle.dm_store_text.proofs.Complete.{true_books_are_not_refused}
use Rattle.dm_lives.specs.Texts.{IsTextRefusedSo}
use Rattle.dm_lives.proofs.Refusals.{ends_well}

pub text_refused_so : {H : Type 0} (files : H → Told) (is_sound : H → List ℕ → Type 0) → IsTextRefusedSo files is_sound
text_refused_so files is_sound = λ shelf asked opening text within holds of.
    let s = setting_for asked opening in
    let h = holds of.bytes of.held in
    let end = h.stands.end in
    let none = ends_well s h.book h.contents end h.restored.is_in (h.crash_end end h.stands.split) in
    ⊎_elim (λ e. absurd (of.is.some e)) (λ e. of.is.line ∙ ap refusal_line e)
    (true_books_are_not_refused s (length asked.run.feeds) of.bytes h.contents end h.book of.is.why within.penalty within.plans.1 within.few_feeds h.restored none (of.is.cause h.contents h.stands))

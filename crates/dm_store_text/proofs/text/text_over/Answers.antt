use Rattle.std.proofs.Common.{◌≡◌, ℕ, List, Err, subst, ◌∙◌}
use Rattle.dm_outside.specs.declared.faults.TakeFault.{TakeFault}
use Rattle.dm_input.specs.Input.{IsHeld}
use Rattle.dm_input.specs.Stops.{IsLong, Takes}
use Rattle.dm_restore.specs.Start.{setting_of_head}
use Rattle.dm_restore.specs.declared.heads.Head.{Head}
use Rattle.dm_words.specs.ServerAsked.{server_of}
use Rattle.dm_store_text.specs.Asked.{setting_for}
use Rattle.dm_store_text.specs.Inside.Ending.{EndsText}
use Rattle.dm_store_text.specs.Lines.{unread_line}
use Rattle.dm_store_text.specs.Texts.{IsOfBytes, journal_name}
use Rattle.dm_store_text.specs.Written.{EndsAs}
use Rattle.dm_store_text.specs.declared.status.Status.TheVariants.{ReadFault}
use Rattle.dm_store_text.proofs.Closing.{ends_long, ends_taken, ends_untaken}
use Rattle.dm_store_text.proofs.text.text_over.Goals as goal

pub returns-in-Ok-take_name-clause-ends : goal.returns-in-Ok-take_name-clause-ends
returns-in-Ok-take_name-clause-ends g c =
    let told = g.H.Shelf.files c.args.shelf.now in
    let asked = server_of c.args.words.now in
    let bytes = c.in-Ok-take_name.bytes.items in
    let name : c.as_str.result.now ≡ journal_name asked = c.as_str.ensures.value ∙ c.in-Ok.ensures in
    let held : IsHeld told (journal_name asked) bytes = subst (λ (n : List ℕ). IsHeld told n bytes) name c.in-Ok-take_name.ensures.takes.0 in
    ends_taken told (g.H.Shelf.is_sound c.args.shelf.now) asked (setting_for asked (record { net = c.args.net.now; rows = c.args.rows })) g.K.Sink.taken g.K.Sink.faults c.args.out.now
    c.text_of_bytes.new.out c.text_of_bytes.result bytes held
    (subst
    (λ (h : Head). EndsText g.K.Sink.taken g.K.Sink.faults (IsOfBytes (setting_of_head c.args.net.now c.args.rows h) h.feeds bytes) c.args.out.now c.text_of_bytes.new.out c.text_of_bytes.result)
    c.head_of.ensures
    (subst
    (λ (b : List ℕ). EndsText g.K.Sink.taken g.K.Sink.faults (IsOfBytes (setting_of_head c.args.net.now c.args.rows c.head_of.result) c.head_of.result.feeds b) c.args.out.now
    c.text_of_bytes.new.out c.text_of_bytes.result)
    c.deref.ensures.value c.text_of_bytes.ensures.ends))

pub returns-in-Err-ReadFault-clause-ends : goal.returns-in-Err-ReadFault-clause-ends
returns-in-Err-ReadFault-clause-ends g c =
    let sound = g.H.Shelf.is_sound c.args.shelf.now in
    let asked = server_of c.args.words.now in
    let name : c.as_str.result.now ≡ journal_name asked = c.as_str.ensures.value ∙ c.in-Ok.ensures in
    let takes : Takes (g.H.Shelf.files c.args.shelf.now) sound c.as_str.result.now 134217728 (Err c.in-Err-ReadFault.field-0) = c.in-Err-ReadFault.ensures.takes in
    let unread = subst (λ (f : TakeFault). Takes (g.H.Shelf.files c.args.shelf.now) sound c.as_str.result.now 134217728 (Err f)) c.in-Err-ReadFault.field-0-is takes in
    let again : c.as_str-in-Err-ReadFault.result.now ≡ journal_name asked = c.as_str-in-Err-ReadFault.ensures.value ∙ c.in-Ok.ensures in
    ends_untaken (g.H.Shelf.files c.args.shelf.now) sound asked (setting_for asked (record { net = c.args.net.now; rows = c.args.rows })) g.K.Sink.taken g.K.Sink.faults c.args.out.now
    c.end_unread.new.out c.end_unread.result
    (subst (λ (n : List ℕ). sound n → ⊥) name unread)
    (subst (λ (n : List ℕ). EndsAs g.K.Sink.taken g.K.Sink.faults c.args.out.now c.end_unread.new.out (unread_line n) ReadFault c.end_unread.result) again c.end_unread.ensures)

pub returns-in-Err-TooLong-clause-ends : goal.returns-in-Err-TooLong-clause-ends
returns-in-Err-TooLong-clause-ends g c =
    let told = g.H.Shelf.files c.args.shelf.now in
    let asked = server_of c.args.words.now in
    let name : c.as_str.result.now ≡ journal_name asked = c.as_str.ensures.value ∙ c.in-Ok.ensures in
    let takes : Takes told (g.H.Shelf.is_sound c.args.shelf.now) c.as_str.result.now 134217728 (Err c.in-Err-TooLong.field-0) = c.in-Err-TooLong.ensures.takes in
    let long = subst (λ (f : TakeFault). Takes told (g.H.Shelf.is_sound c.args.shelf.now) c.as_str.result.now 134217728 (Err f)) c.in-Err-TooLong.field-0-is takes in
    ends_long told (g.H.Shelf.is_sound c.args.shelf.now) asked (setting_for asked (record { net = c.args.net.now; rows = c.args.rows })) g.K.Sink.taken g.K.Sink.faults c.args.out.now
    c.end_store.new.out c.end_store.result
    (subst (λ (n : List ℕ). IsLong told n 134217728) name long) c.end_store.ensures

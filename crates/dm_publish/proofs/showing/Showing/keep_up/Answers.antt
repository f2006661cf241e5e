use Rattle.std.proofs.Common.{◌≡◌, ◌<◌, ◌∷◌, [], ◌++◌, ℕ, false, List, ◌≤◌, subst, ap, sym, ◌∙◌, arith, refl}
use Rattle.dm_cert.specs.declared.notes.Note.{Note}
use Rattle.dm_publish.specs.Publishing.{has_note}
use Rattle.dm_publish.specs.Inside.Turns.{note_of, is_shown, is_dropped}
use Rattle.dm_publish.proofs.Notes.{one_more, has_room}
use Rattle.dm_publish.proofs.showing.Showing.keep_up.Goals as goal

pub invariant_of-self : goal.invariant_of-self
invariant_of-self g c =
    let none : has_note c.self.inside.notes.items c.args.index ≡ false = sym (c.if-has_note.ensures ∙ ap (λ (notes : List Note). has_note notes c.args.index) c.deref.ensures.value) in
    let boards : c.self.inside.boards ≡ c.args.self.now.boards = ap (λ (v : _). v.boards) c.self.view_is in
    let below : c.args.index < c.self.inside.boards = omega (arith, boards, c.requires.is_board) in
    let i = c.self.invariant in
    let room = c.push.ensures.capacity in
    let flags_grown = c.refresh.ensures.flags_room in
    let times_grown = c.refresh.ensures.times_room in
    (i.0, omega arith, omega arith, omega arith, i.4, i.5, rw c.in-Ok.ensures.items (one_more c.self.inside.boards c.self.inside.notes.items c.args.index _ i.6 below none refl))

pub unreachable-requires : goal.unreachable-requires
unreachable-requires g c =
    let none : has_note c.self.inside.notes.items c.args.index ≡ false = sym (c.if-has_note.ensures ∙ ap (λ (notes : List Note). has_note notes c.args.index) c.deref.ensures.value) in
    let boards : c.self.inside.boards ≡ c.args.self.now.boards = ap (λ (v : _). v.boards) c.self.view_is in
    let below : c.args.index < c.self.inside.boards = omega (arith, boards, c.requires.is_board) in
    let room = has_room c.self.inside.boards c.self.inside.notes.items c.args.index (note_of c.args.index 0 0) c.self.invariant.6 below none refl in
    let full = c.in_default-push.ensures.full in
    omega arith

pub returns-in-Ok-clause-turn : goal.returns-in-Ok-clause-turn
returns-in-Ok-clause-turn g c =
    let refreshed = c.refresh.ensures.refreshed c.args.self.now.last c.requires.listed in
    let notes : c.self.inside.notes.items ≡ c.args.self.now.notes = ap (λ (v : _). v.notes) c.self.view_is in
    let none : has_note c.args.self.now.notes c.args.index ≡ false =
    sym (c.if-has_note.ensures ∙ ap (λ (notes : List Note). has_note notes c.args.index) (c.deref.ensures.value ∙ notes)) in
    let stop = ap (λ (s : _). s.0) c.stop_of.ensures.stop ∙ refreshed.same_stop in
    is_dropped none (c.in-Ok.ensures.items ∙ (ap (λ (ns : List Note). ns ++ note_of c.args.index c.stop_of.result.0 c.args.entry ∷ []) notes
    ∙ ap (λ (s : ℕ). c.args.self.now.notes ++ note_of c.args.index s c.args.entry ∷ []) stop))
    (subst (λ (s : ℕ). s ≤ 4294967295) refreshed.same_stop c.stop_of.ensures.fits) c.refresh.result c.in-Err.field-0 c.in-Err.is refreshed

pub returns-in_default-clause-turn : goal.returns-in_default-clause-turn
returns-in_default-clause-turn g c =
    let refreshed = c.refresh.ensures.refreshed c.args.self.now.last c.requires.listed in
    let notes : c.self.inside.notes.items ≡ c.args.self.now.notes = ap (λ (v : _). v.notes) c.self.view_is in
    let none : has_note c.args.self.now.notes c.args.index ≡ false =
    sym (c.if-has_note.ensures ∙ ap (λ (notes : List Note). has_note notes c.args.index) (c.deref.ensures.value ∙ notes)) in
    is_shown none notes c.refresh.result c.in_default.is refreshed

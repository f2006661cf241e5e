use Rattle.std.proofs.Common.{◌≤◌, ℕ, List, ap, subst, refl, sym, ◌∙◌}
use Rattle.dm_cert.specs.declared.notes.Note.{Note}
use Rattle.dm_cert.specs.Runs.{AreTrueNotes}
use Rattle.dm_publish.specs.Value.{nothing, published}
use Rattle.dm_publish.proofs.Carried.{publishes_by, keeps_up_by}
use Rattle.dm_publish.proofs.Listed.{grouped_all, lists_all}
use Rattle.dm_publish.proofs.publisher.Publisher.publish.Goals as goal

pub show_listed-requires-clause-listed : goal.show_listed-requires-clause-listed
show_listed-requires-clause-listed g c =
    rw c.deref.ensures.value (lists_all c.args.net.now _ c.list_all.new.listed.items c.list_all.ensures.listed _ refl c.forget.new.self.last (published c.args.timetable.now c.args.cancelled.now) (sym c.requires.times))

pub show_listed-requires-clause-grouped : goal.show_listed-requires-clause-grouped
show_listed-requires-clause-grouped g c =
    rw c.deref.ensures.value (grouped_all c.args.net.now _ c.list_all.new.listed.items c.list_all.ensures.listed _ refl refl)

pub returns-clause-published : goal.returns-clause-published
returns-clause-published g c =
    publishes_by _ _ _ _ _ c.args.net.now _ nothing (published c.args.timetable.now c.args.cancelled.now) c.forget.ensures.last c.args.entry c.args.boards.now.items c.show_listed.new.boards.items
    _ c.args.self.now.notes c.show_listed.new.self.notes _ (c.forget.ensures.same_notes ∙ ap (λ (v : _). v.notes) c.self.view_is) c.show_listed.ensures.published

pub returns-clause-keeps_up : goal.returns-clause-keeps_up
returns-clause-keeps_up g c =
    keeps_up_by _ _ _ _ _ c.args.net.now _ (published c.args.timetable.now c.args.cancelled.now) c.args.boards.now.items c.show_listed.new.boards.items _ c.args.self.now.notes c.show_listed.new.self.notes
    c.forget.ensures.last (c.forget.ensures.same_notes ∙ ap (λ (v : _). v.notes) c.self.view_is) c.show_listed.ensures.keeps_up

pub returns-clause-true_notes : goal.returns-clause-true_notes
returns-clause-true_notes g c =
    let P : List Note → Type 0 = λ n. (entries : ℕ) → entries ≤ c.args.entry → AreTrueNotes entries n → AreTrueNotes c.args.entry c.show_listed.new.self.notes in
    subst P (c.forget.ensures.same_notes ∙ ap (λ (v : _). v.notes) c.self.view_is) c.show_listed.ensures.true_notes

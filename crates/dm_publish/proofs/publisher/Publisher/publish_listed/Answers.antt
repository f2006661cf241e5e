use Rattle.std.proofs.Common.{◌≡◌, ◌<◌, ◌≤◌, ℕ, List, length, ap, subst, sym, arith}
use Rattle.std.specs.Prelude.{All}
use Rattle.dm_cert.specs.declared.notes.Note.{Note}
use Rattle.dm_cert.specs.Runs.{AreTrueNotes}
use Rattle.dm_marks.specs.Moved.{ListsMoved}
use Rattle.dm_publish.specs.Shown.{ListsMarked}
use Rattle.dm_publish.specs.Value.{Published, published}
use Rattle.dm_publish.proofs.Carried.{publishes_by, keeps_last_by}
use Rattle.dm_publish.proofs.Listed.{listed_grouped, lists_moved}
use Rattle.dm_publish.proofs.publisher.Publisher.publish_listed.Goals as goal

pub show_listed-requires-clause-listed : goal.show_listed-requires-clause-listed
show_listed-requires-clause-listed g c =
    let P : Published → Type 0 = λ last. ListsMoved last.times c.args.timetable.now c.args.places.now in
    let Q : Published → Type 0 = λ last. ListsMarked last.cancelled c.args.cancelled.now c.args.places.now in
    let R : Published → Type 0 = λ last. length last.cancelled ≡ length last.times in
    let as_many = subst R (sym (ap (λ (v : _). v.last) c.self.view_is)) c.requires.published in
    let moved = subst P (sym (ap (λ (v : _). v.last) c.self.view_is)) c.requires.moved in
    let marked = subst Q (sym (ap (λ (v : _). v.last) c.self.view_is)) c.requires.marked in
    rw c.deref.ensures.value (lists_moved c.args.net.now c.args.places.now c.list_places.new.listed.items c.list_places.ensures.listed _ (published c.args.timetable.now c.args.cancelled.now) as_many moved marked)

pub show_listed-requires-clause-grouped : goal.show_listed-requires-clause-grouped
show_listed-requires-clause-grouped g c =
    let times = c.requires.times in
    let few = c.requires.moved.few in
    let low : All (λ i. i < length c.args.net.now.events) c.args.places.now = λ k d lt. let low = c.requires.moved.within k d lt in omega arith in
    rw c.deref.ensures.value (listed_grouped c.args.net.now c.args.places.now c.list_places.new.listed.items c.list_places.ensures.listed low (omega arith))

pub returns-clause-published : goal.returns-clause-published
returns-clause-published g c =
    publishes_by _ _ _ _ _ c.args.net.now _ c.args.self.now.last (published c.args.timetable.now c.args.cancelled.now) (ap (λ (v : _). v.last) c.self.view_is) c.args.entry c.args.boards.now.items c.show_listed.new.boards.items
    _ c.args.self.now.notes c.show_listed.new.self.notes _ (ap (λ (v : _). v.notes) c.self.view_is) c.show_listed.ensures.published

pub returns-clause-keeps_up : goal.returns-clause-keeps_up
returns-clause-keeps_up g c =
    keeps_last_by _ _ _ _ _ c.args.net.now _ c.args.self.now.last (published c.args.timetable.now c.args.cancelled.now) (ap (λ (v : _). v.last) c.self.view_is) c.args.boards.now.items c.show_listed.new.boards.items
    _ c.args.self.now.notes c.show_listed.new.self.notes (ap (λ (v : _). v.notes) c.self.view_is) c.show_listed.ensures.keeps_up

pub returns-clause-true_notes : goal.returns-clause-true_notes
returns-clause-true_notes g c =
    let P : List Note → Type 0 = λ n. (entries : ℕ) → entries ≤ c.args.entry → AreTrueNotes entries n → AreTrueNotes c.args.entry c.show_listed.new.self.notes in
    subst P (ap (λ (v : _). v.notes) c.self.view_is) c.show_listed.ensures.true_notes

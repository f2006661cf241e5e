use Rattle.std.proofs.Common.{◌≡◌, ℕ, Bool, List, length, vec_len, refl, sym, ap, subst, ◌∙◌, arith}
use Rattle.dm_network.specs.Net.{Net}
use Rattle.dm_marks.specs.Moved.{ListsMoved}
use Rattle.dm_publish.specs.Value.{Published}
use Rattle.dm_publish.specs.Shown.{ListsMarked}
use Rattle.dm_table.specs.Value.{TableValue}
use Rattle.dm_display.proofs.Displays.{not_none, shows_table, shows_none, written}
use Rattle.dm_display.proofs.display.Display.show_growth.Goals as goal

pub follow_times-requires-clause-shown : goal.follow_times-requires-clause-shown
follow_times-requires-clause-shown g c = (c.requires.has (not_none (vec_len c.args.boards.now) (sym c.if-is_empty.ensures))).within

pub follow_times-requires-clause-times : goal.follow_times-requires-clause-times
follow_times-requires-clause-times g c = (c.requires.has (not_none (vec_len c.args.boards.now) (sym c.if-is_empty.ensures))).least

pub follow_times-requires-clause-room : goal.follow_times-requires-clause-room
follow_times-requires-clause-room g c = c.requires.fits.room

pub publish_listed-dropped-requires-clause-events : goal.publish_listed-dropped-requires-clause-events
publish_listed-dropped-requires-clause-events g c = ap (λ (n : Net). length n.events) c.requires.fits.network ∙ sym c.requires.fits.events

pub publish_listed-dropped-requires-clause-times : goal.publish_listed-dropped-requires-clause-times
publish_listed-dropped-requires-clause-times g c = ap length c.follow_times.ensures.times ∙ (c.reveal.ensures.table.least.meets.size ∙ sym (ap (λ (n : Net). length n.events) c.requires.fits.network))

pub publish_listed-dropped-requires-clause-boards : goal.publish_listed-dropped-requires-clause-boards
publish_listed-dropped-requires-clause-boards g c = sym c.requires.fits.boards

pub publish_listed-dropped-requires-clause-moved : goal.publish_listed-dropped-requires-clause-moved
publish_listed-dropped-requires-clause-moved g c =
    let has = c.requires.has (not_none (vec_len c.args.boards.now) (sym c.if-is_empty.ensures)) in
    let now = c.follow_times.new.into in
    subst (λ (last : Published). ListsMoved last.times now c.deref-2.result.now) (sym has.last)
    (subst (λ (listed : List ℕ). ListsMoved c.args.self.now.times now listed) (sym c.deref-2.ensures.value) c.follow_times.ensures.listed)

pub publish_listed-dropped-requires-clause-marked : goal.publish_listed-dropped-requires-clause-marked
publish_listed-dropped-requires-clause-marked g c =
    let has = c.requires.has (not_none (vec_len c.args.boards.now) (sym c.if-is_empty.ensures)) in
    let now = c.deref.result.now in
    let lent = ap length c.deref_mut.ensures.value in
    let size : length c.follow_times.new.cancelled ≡ length c.deref_mut.result.now = omega (arith, ap length c.follow_times.ensures.flags, c.reveal.ensures.sized.cancelled, c.requires.fits.flags, lent) in
    let written_back = written c.args.self.now.cancelled c.deref_mut.result.now c.follow_times.new.cancelled c.deref_mut.ensures.value size in
    subst (λ (last : Published). ListsMarked last.cancelled now c.deref-2.result.now) (sym has.last)
    (subst (λ (listed : List ℕ). ListsMarked c.args.self.now.cancelled.items now listed) (sym c.deref-2.ensures.value)
    (subst (λ (marks : List Bool). ListsMarked c.args.self.now.cancelled.items marks c.follow_times.new.listed.items) (sym (c.deref.ensures.value ∙ written_back))
    (subst (λ (marks : List Bool). ListsMarked marks c.follow_times.new.cancelled c.follow_times.new.listed.items) c.deref_mut.ensures.value c.follow_times.ensures.marked)))

pub publish_listed-dropped-requires-clause-published : goal.publish_listed-dropped-requires-clause-published
publish_listed-dropped-requires-clause-published g c =
    let has = c.requires.has (not_none (vec_len c.args.boards.now) (sym c.if-is_empty.ensures)) in
    subst (λ (last : Published). length last.cancelled ≡ length last.times) (sym has.last) (c.requires.fits.flags ∙ sym c.requires.fits.size)

pub publish_listed-dropped-requires-clause-flags : goal.publish_listed-dropped-requires-clause-flags
publish_listed-dropped-requires-clause-flags g c =
    let lent = ap length c.deref_mut.ensures.value in
    let size : length c.follow_times.new.cancelled ≡ length c.deref_mut.result.now = omega (arith, ap length c.follow_times.ensures.flags, c.reveal.ensures.sized.cancelled, c.requires.fits.flags, lent) in
    let written_back = written c.args.self.now.cancelled c.deref_mut.result.now c.follow_times.new.cancelled c.deref_mut.ensures.value size in
    ap length (c.deref.ensures.value ∙ (written_back ∙ c.follow_times.ensures.flags)) ∙ (c.reveal.ensures.sized.cancelled ∙ sym (ap (λ (n : Net). length n.events) c.requires.fits.network))

pub follow_times-requires-clause-flags : goal.follow_times-requires-clause-flags
follow_times-requires-clause-flags g c = c.deref_mut.ensures.value ∙ (c.requires.has (not_none (vec_len c.args.boards.now) (sym c.if-is_empty.ensures))).marks

pub returns-then-is_empty-clause-shows : goal.returns-then-is_empty-clause-shows
returns-then-is_empty-clause-shows g c =
    shows_none _ _ _ _ _ c.args.table.now c.args.self.now (vec_len c.args.boards.now) c.args.boards.now.items c.args.boards.now.ok.0 (sym c.if-is_empty.ensures) c.requires.fits

pub returns-clause-shows : goal.returns-clause-shows
returns-clause-shows g c =
    let p = c.publish_listed-dropped.ensures in
    let lent = ap length c.deref_mut.ensures.value in
    let size : length c.follow_times.new.cancelled ≡ length c.deref_mut.result.now = omega (arith, ap length c.follow_times.ensures.flags, c.reveal.ensures.sized.cancelled, c.requires.fits.flags, lent) in
    let written_back = written c.args.self.now.cancelled c.deref_mut.result.now c.follow_times.new.cancelled c.deref_mut.ensures.value size in
    shows_table _ _ _ _ _ c.args.table.now c.args.self.now _ c.args.self.now.net.now c.len-entries.result (vec_len c.args.boards.now) c.args.boards.now.items c.publish_listed-dropped.new.boards.items
    c.reveal.ensures.table c.reveal.ensures.sized c.args.boards.now.ok.0 c.requires.fits c.requires.fits.network c.requires.fits.network c.follow_times.ensures.room (c.len-entries.ensures.count ∙ ap (λ (t : TableValue). length t.history) c.follow_times.ensures.same) refl c.follow_times.ensures.times (written_back ∙ c.follow_times.ensures.flags) c.deref.result.now c.deref.ensures.value
    p.published.stops p.keeps_up p.true_notes p.last p.same_boards p.same_events

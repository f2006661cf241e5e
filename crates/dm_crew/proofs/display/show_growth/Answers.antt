use Rattle.std.proofs.Common.{◌≡◌, ℕ, Bool, ◌≤◌, List, length, vec_len, vec_capacity, refl, sym, ap, subst, ◌∙◌}
use Rattle.dm_network.specs.Net.{Net}
use Rattle.dm_marks.specs.Moved.{ListsMoved}
use Rattle.dm_publish.specs.Value.{Published}
use Rattle.dm_publish.specs.Shown.{ListsMarked}
use Rattle.dm_rows.specs.History.{rows_at}
use Rattle.dm_rows.specs.Timetable.{IsLeast}
use Rattle.dm_server.specs.declared.kept.Base.{Base}
use Rattle.dm_server.specs.Answers.{AreMarksAfter, AreTimesAfter}
use Rattle.dm_crew.proofs.Desks.{Holds, holds_at, base_looked}
use Rattle.dm_display.proofs.Displays.{not_none, written}
use Rattle.dm_crew.proofs.Displays.{some_base, earlier_entries, earlier_least, earlier_marks, shows_after, shows_none}
use Rattle.dm_crew.proofs.display.show_growth.Goals as goal

pub follow_times-entry-requires-clause-shown : goal.follow_times-entry-requires-clause-shown
follow_times-entry-requires-clause-shown g c =
    earlier_entries g.P.Seat.base c.args.main.now.seen c.args.display.now (c.requires.has (not_none (vec_len c.args.boards.now) (sym c.if-is_empty.ensures)))

pub follow_times-entry-requires-clause-times : goal.follow_times-entry-requires-clause-times
follow_times-entry-requires-clause-times g c = λ base is.
    subst (λ (b : Base). IsLeast b.network (rows_at b.network b.start c.args.main.now.seen c.args.display.now.entries) c.args.display.now.times) (some_base (sym c.requires.base ∙ is))
    (earlier_least g.P.Seat.base c.args.main.now.seen c.args.display.now (c.requires.has (not_none (vec_len c.args.boards.now) (sym c.if-is_empty.ensures))))

pub follow_times-entry-requires-clause-room : goal.follow_times-entry-requires-clause-room
follow_times-entry-requires-clause-room g c = λ base is.
    subst (λ (b : Base). length b.network.events ≤ vec_capacity c.args.display.now.listed) (some_base (sym c.requires.base ∙ is)) c.requires.fits.room

pub publish_listed-dropped-requires-clause-events : goal.publish_listed-dropped-requires-clause-events
publish_listed-dropped-requires-clause-events g c = ap (λ (n : Net). length n.events) c.requires.fits.network ∙ sym c.requires.fits.events

pub publish_listed-dropped-requires-clause-times : goal.publish_listed-dropped-requires-clause-times
publish_listed-dropped-requires-clause-times g c =
    let pass = c.follow_times-entry.new.pass in
    let least = holds_at (λ base seen. AreTimesAfter base seen c.follow_times-entry.new.into) g.P.Seat.base c.args.main.now pass c.requires.base (base_looked c.args.main.now pass c.follow_times-entry.ensures.looked) c.follow_times-entry.ensures.times in
    least.meets.size ∙ sym (ap (λ (n : Net). length n.events) c.requires.fits.network)

pub publish_listed-dropped-requires-clause-boards : goal.publish_listed-dropped-requires-clause-boards
publish_listed-dropped-requires-clause-boards g c = sym c.requires.fits.boards

pub follow_times-entry-requires-clause-flags : goal.follow_times-entry-requires-clause-flags
follow_times-entry-requires-clause-flags g c = λ base is.
    subst (λ (b : Base). c.deref_mut.result.now ≡ (rows_at b.network b.start c.args.main.now.seen c.args.display.now.entries).cancelled) (some_base (sym c.requires.base ∙ is))
    (c.deref_mut.ensures.value ∙ earlier_marks g.P.Seat.base c.args.main.now.seen c.args.display.now (c.requires.has (not_none (vec_len c.args.boards.now) (sym c.if-is_empty.ensures))))

pub publish_listed-dropped-requires-clause-flags : goal.publish_listed-dropped-requires-clause-flags
publish_listed-dropped-requires-clause-flags g c =
    let back = written c.args.display.now.cancelled c.deref_mut.result.now c.follow_times-entry.new.cancelled c.deref_mut.ensures.value c.follow_times-entry.auto.cancelled in
    let sized = ap length back ∙ (c.follow_times-entry.auto.cancelled ∙ (ap length c.deref_mut.ensures.value ∙ c.requires.fits.flags)) in
    ap length c.deref.ensures.value ∙ (sized ∙ sym (ap (λ (n : Net). length n.events) c.requires.fits.network))

pub publish_listed-dropped-requires-clause-published : goal.publish_listed-dropped-requires-clause-published
publish_listed-dropped-requires-clause-published g c =
    let has = (c.requires.has (not_none (vec_len c.args.boards.now) (sym c.if-is_empty.ensures))) in
    subst (λ (last : Published). length last.cancelled ≡ length last.times) (sym has.times.last) (c.requires.fits.flags ∙ sym c.requires.fits.size)

pub publish_listed-dropped-requires-clause-moved : goal.publish_listed-dropped-requires-clause-moved
publish_listed-dropped-requires-clause-moved g c =
    let has = (c.requires.has (not_none (vec_len c.args.boards.now) (sym c.if-is_empty.ensures))) in
    let now = c.follow_times-entry.new.into in
    subst (λ (last : Published). ListsMoved last.times now c.deref-2.result.now) (sym has.times.last)
    (subst (λ (listed : List ℕ). ListsMoved c.args.display.now.times now listed) (sym c.deref-2.ensures.value) c.follow_times-entry.ensures.listed)

pub publish_listed-dropped-requires-clause-marked : goal.publish_listed-dropped-requires-clause-marked
publish_listed-dropped-requires-clause-marked g c =
    let has = (c.requires.has (not_none (vec_len c.args.boards.now) (sym c.if-is_empty.ensures))) in
    let back = written c.args.display.now.cancelled c.deref_mut.result.now c.follow_times-entry.new.cancelled c.deref_mut.ensures.value c.follow_times-entry.auto.cancelled in
    let sized = ap length back ∙ (c.follow_times-entry.auto.cancelled ∙ (ap length c.deref_mut.ensures.value ∙ c.requires.fits.flags)) in
    subst (λ (last : Published). ListsMarked last.cancelled c.deref.result.now c.deref-2.result.now) (sym has.times.last)
    (subst (λ (listed : List ℕ). ListsMarked c.args.display.now.cancelled.items c.deref.result.now listed) (sym c.deref-2.ensures.value)
    (subst (λ (marks : List Bool). ListsMarked c.args.display.now.cancelled.items marks c.follow_times-entry.new.listed.items) (sym (c.deref.ensures.value ∙ back))
    (subst (λ (marks : List Bool). ListsMarked marks c.follow_times-entry.new.cancelled c.follow_times-entry.new.listed.items) c.deref_mut.ensures.value c.follow_times-entry.ensures.marked)))

pub returns-then-is_empty : goal.returns-then-is_empty
returns-then-is_empty g c =
    shows_none _ _ _ _ _ g.P.Seat.base c.args.main.now c.args.display.now (vec_len c.args.boards.now) c.args.boards.now.items c.args.boards.now.ok.0 (sym c.if-is_empty.ensures) c.requires.legal c.requires.fits

pub returns : goal.returns
returns g c =
    let p = c.publish_listed-dropped.ensures in
    let back = written c.args.display.now.cancelled c.deref_mut.result.now c.follow_times-entry.new.cancelled c.deref_mut.ensures.value c.follow_times-entry.auto.cancelled in
    let sized = ap length back ∙ (c.follow_times-entry.auto.cancelled ∙ (ap length c.deref_mut.ensures.value ∙ c.requires.fits.flags)) in
    shows_after _ _ _ _ _ g.P.Seat.base c.args.main.now c.follow_times-entry.new.pass c.args.display.now _ c.args.display.now.net.now c.follow_times-entry.result (vec_len c.args.boards.now) c.args.boards.now.items c.publish_listed-dropped.new.boards.items
    c.args.boards.now.ok.0 c.requires.fits c.requires.base c.follow_times-entry.ensures.looked c.follow_times-entry.ensures.legal c.follow_times-entry.ensures.times
    (subst (λ (l : List Bool). Holds (λ base seen. AreMarksAfter base seen l) c.follow_times-entry.new.pass) (sym back) c.follow_times-entry.ensures.flags) sized
    c.requires.fits.network c.requires.fits.network c.follow_times-entry.ensures.room c.follow_times-entry.ensures.number refl c.deref.result.now c.deref.ensures.value p.published.stops p.keeps_up p.true_notes p.last p.same_boards p.same_events

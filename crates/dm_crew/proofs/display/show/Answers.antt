use Rattle.std.proofs.Common.{◌≡◌, Bool, List, length, vec_len, refl, sym, ap, subst, ◌∙◌, arith}
use Rattle.dm_network.specs.Net.{Net}
use Rattle.dm_server.specs.declared.kept.Base.{Base}
use Rattle.dm_server.specs.Answers.{AreMarksAfter, AreTimesAfter}
use Rattle.dm_crew.proofs.Desks.{Holds, holds_at, base_looked}
use Rattle.dm_display.proofs.Displays.{keeps_last, written}
use Rattle.dm_crew.proofs.Displays.{some_base, shows_after, shows_none}
use Rattle.dm_crew.proofs.display.show.Goals as goal

pub copy_shown-entry-requires-clause-size : goal.copy_shown-entry-requires-clause-size
copy_shown-entry-requires-clause-size g c = λ base is.
    subst (λ (b : Base). length c.args.display.now.times ≡ length b.network.events) (some_base (sym c.requires.base ∙ is)) c.requires.fits.size

pub publish-dropped-requires-clause-events : goal.publish-dropped-requires-clause-events
publish-dropped-requires-clause-events g c = ap (λ (n : Net). length n.events) c.requires.fits.network ∙ sym c.requires.fits.events

pub publish-dropped-requires-clause-times : goal.publish-dropped-requires-clause-times
publish-dropped-requires-clause-times g c =
    let least = holds_at (λ base seen. AreTimesAfter base seen c.copy_shown-entry.new.into) g.P.Seat.base c.args.main.now c.copy_shown-entry.new.pass c.requires.base (base_looked c.args.main.now c.copy_shown-entry.new.pass c.copy_shown-entry.ensures.looked) c.copy_shown-entry.ensures.times in
    least.meets.size ∙ sym (ap (λ (n : Net). length n.events) c.requires.fits.network)

pub publish-dropped-requires-clause-boards : goal.publish-dropped-requires-clause-boards
publish-dropped-requires-clause-boards g c = sym c.requires.fits.boards

pub returns-then-is_empty : goal.returns-then-is_empty
returns-then-is_empty g c =
    shows_none _ _ _ _ _ g.P.Seat.base c.args.main.now c.args.display.now (vec_len c.args.boards.now) c.args.boards.now.items c.args.boards.now.ok.0 (sym c.if-is_empty.ensures) c.requires.legal c.requires.fits

pub copy_shown-entry-requires-clause-flags : goal.copy_shown-entry-requires-clause-flags
copy_shown-entry-requires-clause-flags g c = λ base is.
    subst (λ (b : Base). length c.deref_mut.result.now ≡ length b.network.events) (some_base (sym c.requires.base ∙ is)) (ap length c.deref_mut.ensures.value ∙ c.requires.fits.flags)

pub publish-dropped-requires-clause-flags : goal.publish-dropped-requires-clause-flags
publish-dropped-requires-clause-flags g c =
    let back = written c.args.display.now.cancelled c.deref_mut.result.now c.copy_shown-entry.new.cancelled c.deref_mut.ensures.value c.copy_shown-entry.auto.cancelled in
    let sized = ap length back ∙ (c.copy_shown-entry.auto.cancelled ∙ (ap length c.deref_mut.ensures.value ∙ c.requires.fits.flags)) in
    ap length c.deref.ensures.value ∙ (sized ∙ sym (ap (λ (n : Net). length n.events) c.requires.fits.network))

pub returns : goal.returns
returns g c =
    let p = c.publish-dropped.ensures in
    let back = written c.args.display.now.cancelled c.deref_mut.result.now c.copy_shown-entry.new.cancelled c.deref_mut.ensures.value c.copy_shown-entry.auto.cancelled in
    let sized = ap length back ∙ (c.copy_shown-entry.auto.cancelled ∙ (ap length c.deref_mut.ensures.value ∙ c.requires.fits.flags)) in
    shows_after _ _ _ _ _ g.P.Seat.base c.args.main.now c.copy_shown-entry.new.pass c.args.display.now _ c.args.display.now.net.now c.copy_shown-entry.result (vec_len c.args.boards.now) c.args.boards.now.items c.publish-dropped.new.boards.items
    c.args.boards.now.ok.0 c.requires.fits c.requires.base c.copy_shown-entry.ensures.looked c.copy_shown-entry.ensures.legal c.copy_shown-entry.ensures.times
    (subst (λ (l : List Bool). Holds (λ base seen. AreMarksAfter base seen l) c.copy_shown-entry.new.pass) (sym back) c.copy_shown-entry.ensures.flags) sized
    c.requires.fits.network c.requires.fits.network (omega arith) c.copy_shown-entry.ensures.number refl c.deref.result.now c.deref.ensures.value p.published.stops (keeps_last _ _ _ _ _ _ _ _ _ _ _ _ p.keeps_up) p.true_notes p.last p.same_boards p.same_events

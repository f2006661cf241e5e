use Rattle.std.proofs.Common.{◌≡◌, length, vec_len, refl, sym, ap, ◌∙◌, arith}
use Rattle.dm_network.specs.Net.{Net}
use Rattle.dm_display.proofs.Displays.{shows_table, shows_none, keeps_last, written}
use Rattle.dm_display.proofs.display.Display.show.Goals as goal

pub copy_from-requires : goal.copy_from-requires
copy_from-requires g c = c.requires.fits.size ∙ (sym c.reveal.ensures.table.least.meets.size ∙ sym (ap length c.times.ensures))

pub publish-dropped-requires-clause-events : goal.publish-dropped-requires-clause-events
publish-dropped-requires-clause-events g c = ap (λ (n : Net). length n.events) c.requires.fits.network ∙ sym c.requires.fits.events

pub publish-dropped-requires-clause-times : goal.publish-dropped-requires-clause-times
publish-dropped-requires-clause-times g c = ap length (c.copy_from.ensures ∙ c.times.ensures) ∙ (c.reveal.ensures.table.least.meets.size ∙ sym (ap (λ (n : Net). length n.events) c.requires.fits.network))

pub publish-dropped-requires-clause-boards : goal.publish-dropped-requires-clause-boards
publish-dropped-requires-clause-boards g c = sym c.requires.fits.boards

pub returns-then-is_empty : goal.returns-then-is_empty
returns-then-is_empty g c = shows_none _ _ _ _ _ c.args.table.now c.args.self.now (vec_len c.args.boards.now) c.args.boards.now.items c.args.boards.now.ok.0 (sym c.if-is_empty.ensures) c.requires.fits

pub returns : goal.returns
returns g c =
    let p = c.publish-dropped.ensures in
    let lent = ap length c.deref_mut.ensures.value in
    let size : length c.copy_cancelled.new.into ≡ length c.deref_mut.result.now = omega (arith, ap length c.copy_cancelled.ensures, c.reveal.ensures.sized.cancelled, c.requires.fits.flags, lent) in
    shows_table _ _ _ _ _ c.args.table.now c.args.self.now _ c.args.self.now.net.now c.len-entries.result (vec_len c.args.boards.now) c.args.boards.now.items c.publish-dropped.new.boards.items
    c.reveal.ensures.table c.reveal.ensures.sized c.args.boards.now.ok.0 c.requires.fits c.requires.fits.network c.requires.fits.network (omega arith) c.len-entries.ensures.count refl (c.copy_from.ensures ∙ c.times.ensures)
    (written c.args.self.now.cancelled c.deref_mut.result.now c.copy_cancelled.new.into c.deref_mut.ensures.value size ∙ c.copy_cancelled.ensures) c.deref.result.now c.deref.ensures.value
    p.published.stops (keeps_last _ _ _ _ _ _ _ _ _ _ _ _ p.keeps_up) p.true_notes p.last p.same_boards p.same_events

pub copy_cancelled-requires : goal.copy_cancelled-requires
copy_cancelled-requires g c = ap length c.deref_mut.ensures.value ∙ c.requires.fits.flags

pub publish-dropped-requires-clause-flags : goal.publish-dropped-requires-clause-flags
publish-dropped-requires-clause-flags g c =
    let lent = ap length c.deref_mut.ensures.value in
    let size : length c.copy_cancelled.new.into ≡ length c.deref_mut.result.now = omega (arith, ap length c.copy_cancelled.ensures, c.reveal.ensures.sized.cancelled, c.requires.fits.flags, lent) in
    ap length (c.deref.ensures.value ∙ (written c.args.self.now.cancelled c.deref_mut.result.now c.copy_cancelled.new.into c.deref_mut.ensures.value size ∙ c.copy_cancelled.ensures))
    ∙ (c.reveal.ensures.sized.cancelled ∙ sym (ap (λ (n : Net). length n.events) c.requires.fits.network))

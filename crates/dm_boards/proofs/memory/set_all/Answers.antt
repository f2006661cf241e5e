use Rattle.std.proofs.Common.{◌≡◌, ℕ, length, sym, ap, ◌∙◌}
use Rattle.dm_boards.specs.Memory.{value_shown}
use Rattle.dm_boards.proofs.Setting.{set_next}
use Rattle.dm_boards.proofs.memory.set_all.Goals as goal

pub loop-event-preserved : goal.loop-event-preserved
loop-event-preserved g c =
    let item = c.loop-event-item.result in
    let sized : length c.loop-event.values ≡ length c.args.ids.now = c.loop-event.auto.values ∙ c.requires.sized in
    set_next c.args.ids.now c.loop-event.values (value_shown c.args.ids.now c.args.values.now) c.args.changes.now c.loop-event.event-index c.in-Some.place item.0 item.1 item
    c.loop-event-test.true (ap (λ (p : ℕ × g.row.V.Denot). p.0) (sym c.loop-event-item.is)) (ap (λ (p : ℕ × g.row.V.Denot). p.1) (sym c.loop-event-item.is)) (sym c.in-Some.ensures) sized c.loop-event.invariant

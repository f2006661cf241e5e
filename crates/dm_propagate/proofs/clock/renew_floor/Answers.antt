use Rattle.std.proofs.Common.{sym, ◌∙◌}
use Rattle.dm_propagate.proofs.Raising.{one_raised}
use Rattle.dm_propagate.proofs.clock.renew_floor.Goals as goal

pub returns-clause-next : goal.returns-clause-next
returns-clause-next c = λ before due n here so.
    let net = c.args.day.now.net.now in
    let rows = c.args.day.now.rows.now in
    let i = c.args.i in
    let value = c.floor_of.ensures.value in
    let old = c.args.priced.now.live in
    let now = c.set_floor.new.self.live in
    one_raised net rows due n i before old now c.requires.is_event c.requires.priced.live.sized.floors here so
    (rw (sym value) c.set_floor.ensures.floor) (rw (sym value) c.set_floor.ensures.marked) (rw (sym value) c.set_floor.ensures.unmarked) c.set_floor.ensures.order
    c.set_floor.ensures.times

pub set_floor-requires-clause-stays : goal.set_floor-requires-clause-stays
set_floor-requires-clause-stays c = λ on. c.floor_of.ensures.value ∙ sym (c.requires.stays on)

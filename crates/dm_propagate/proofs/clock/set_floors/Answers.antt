use Rattle.std.proofs.Common.{◌<◌, length, sym, ap, ◌∙◌, arith}
use Rattle.dm_live.specs.Live.{is_fixed}
use Rattle.dm_propagate.specs.Inside.Flags.{FlagsValue}
use Rattle.dm_propagate.proofs.clock.set_floors.Goals as goal

pub set_floor-requires-clause-stays : goal.set_floor-requires-clause-stays
set_floor-requires-clause-stays c = λ on.
    let lt : c.loop-i.i < length c.args.day.now.net.now.events = omega (arith, c.loop-i-test.true, c.events-i-end.ensures) in
    c.floor_of.ensures.value
    ∙ sym (c.loop-i.invariant.2.others c.loop-i.i (omega arith)
    ∙ c.requires.stay c.loop-i.i lt (ap (λ (f : FlagsValue). is_fixed f.fixed c.loop-i.i) (sym c.loop-i.invariant.1) ∙ on))

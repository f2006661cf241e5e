use Rattle.std.proofs.Common.{◌≡◌, ◌<◌, List, Bool, false, length, ap, ◌∙◌, arith}
use Rattle.dm_live.specs.Live.{is_fixed}
use Rattle.dm_live.proofs.Standing.{flag_here}
use Rattle.dm_propagate.proofs.turning.open_place.Goals as goal

pub set_floor-requires-clause-stays : goal.set_floor-requires-clause-stays
set_floor-requires-clause-stays c = λ on.
    let many = c.requires.priced.live.as_many_fixed in
    let is_event = c.requires.is_event in
    let below : c.args.event < length c.args.priced.now.live.fixed = omega arith in
    let off : is_fixed c.free.new.self.live.fixed c.args.event ≡ false =
    ap (λ (f : List Bool). is_fixed f c.args.event) c.free.ensures.flag ∙ flag_here c.args.priced.now.live.fixed c.args.event false below in
    absurd cc

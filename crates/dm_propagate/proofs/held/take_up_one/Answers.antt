use Rattle.std.proofs.Common.{◌≡◌, ◌<◌, length, false, sym, ap, ◌∙◌, arith}
use Rattle.std.specs.Prelude.{is_some}
use Rattle.dm_network.specs.Held.{is_held}
use Rattle.dm_network.specs.Net.{activity_at}
use Rattle.dm_rows.proofs.AsGraph.{head_is_free}
use Rattle.dm_live.specs.Live.{LiveValue}
use Rattle.dm_propagate.proofs.HeldLemmas.{taken_up_one}
use Rattle.dm_propagate.proofs.held.take_up_one.Goals as goal

pub returns-in-Ok-clause-taken : goal.returns-in-Ok-clause-taken
returns-in-Ok-clause-taken c =
    let is_activity = c.requires.is_activity in
    let size = c.requires.priced.live.sized.held in
    let below : c.args.a < length c.args.priced.now.live.given.held = omega arith in
    let free : is_held c.args.priced.now.live.given.held c.args.a ≡ false =
    ap (λ (live : LiveValue). is_held live.given.held c.args.a) (sym c.live.ensures) ∙ sym c.is_held.ensures ∙ c.if-is_held.false in
    taken_up_one c.args.day.now.net.now c.args.day.now.rows.now c.args.a c.requires.is_activity c.args.priced.now.live c.hold.new.self.live below c.in-Ok.ensures.mark
    c.in-Ok.ensures.times c.in-Ok.ensures.cycle_stays c.in-Ok.ensures.held free (sym c.is_active.ensures ∙ c.if-not-is_active.false)

pub hold-requires-clause-open : goal.hold-requires-clause-open
hold-requires-clause-open c =
    c.requires.open (activity_at c.args.day.now.net.now c.args.a).head
    (ap is_some (head_is_free c.args.day.now.net.now c.args.day.now.rows.now c.args.a (sym c.is_active.ensures ∙ c.if-not-is_active.false)))

use Rattle.std.proofs.Common.{sym, ap, subst, arith}
use Rattle.dm_priced.specs.Priced.{PricedValue}
use Rattle.dm_settle.specs.Constraints.{ConstraintsValue}
use Rattle.dm_rows.specs.Active.{HasNoCycle}
use Rattle.dm_rows.specs.Rows.{RowsValue}
use Rattle.dm_propagate.specs.Engine.{FollowsRows}
use Rattle.dm_propagate.specs.Inside.Altering.{change_in}
use Rattle.dm_propagate.specs.Inside.Concern.{FollowsBut}
use Rattle.dm_propagate.proofs.AtClock.{other_at_clock, rows_at_clock}
use Rattle.dm_propagate.proofs.Concerning.{follows_but_after, follows_but_before}
use Rattle.dm_propagate.proofs.FewRows.{few_read_for}
use Rattle.dm_propagate.specs.Inside.Flags.{flags_of, AreFlagsOf, AreFlagsBut, MovesPass}
use Rattle.dm_propagate.proofs.Noted.{takes_in_both, takes_in_each, takes_in_none}
use Rattle.dm_propagate.proofs.Flagging.{flags_but_after, flags_but_before, takes_in_cancelled}
use Rattle.dm_propagate.proofs.Following.{follows_least, follows_no_cycle, one_least}
use Rattle.dm_propagate.proofs.Passing.{harmless}
use Rattle.dm_propagate.proofs.Reaching.{reaches_alike, cancel_keeps_passed, event_is_reached, pass_is_reached}
use Rattle.dm_propagate.proofs.moving.move_to.Goals as goal

pub turn_to-requires-clause-reaches : goal.turn_to-requires-clause-reaches
turn_to-requires-clause-reaches g c =
    reaches_alike c.args.day.now.net.now c.args.day.now.rows.now c.args.other.now c.args.day.now.sized c.requires.other_sized (change_in c.args.what.now)
    (cancel_keeps_passed c.args.day.now.rows.now c.args.other.now (change_in c.args.what.now) c.requires.other) c.requires.reaches

pub turn_to-requires-clause-follows : goal.turn_to-requires-clause-follows
turn_to-requires-clause-follows g c =
    subst (λ (rows : RowsValue). FollowsBut c.args.day.now.net.now rows (change_in c.args.what.now) c.args.priced.now.live.given) (sym c.requires.other)
    (follows_but_after c.args.day.now.net.now c.reveal.ensures.network.formed.is_paired c.args.day.now.rows.now (change_in c.args.what.now) c.args.priced.now.live.given c.requires.follows)

pub come_back-requires-clause-follows : goal.come_back-requires-clause-follows
come_back-requires-clause-follows g c =
    follows_but_before c.args.day.now.net.now c.reveal.ensures.network.formed.is_paired c.args.day.now.rows.now (change_in c.args.what.now) c.turn_to.new.priced.live.given
    (subst (λ (rows : RowsValue). FollowsBut c.args.day.now.net.now rows (change_in c.args.what.now) c.turn_to.new.priced.live.given) c.requires.other c.in-Err.ensures.followed)

pub come_back-requires-clause-no_cycle : goal.come_back-requires-clause-no_cycle
come_back-requires-clause-no_cycle g c =
    follows_no_cycle c.args.day.now.net.now c.args.day.now.rows.now c.args.priced.now.live c.requires.priced.live c.requires.follows

pub returns-in-Err-clause-times : goal.returns-in-Err-clause-times
returns-in-Err-clause-times g c =
    one_least c.args.day.now.net.now c.args.day.now.rows.now c.come_back.new.priced.live.times c.args.priced.now.live.times c.come_back.ensures.least
    (follows_least c.args.day.now.net.now c.args.day.now.rows.now c.args.priced.now.live c.reveal.ensures.network.formed.ends_are_known c.requires.priced.live c.requires.at_rest c.requires.follows)

pub returns-in-Ok-clause-few_reads : goal.returns-in-Ok-clause-few_reads
returns-in-Ok-clause-few_reads g c = λ kind on.
    let net = c.args.day.now.net.now in
    let known = c.reveal.ensures.network.formed.ends_are_known in
    let settled : FollowsRows net c.args.other.now c.settle_noted.new.priced.live.given =
    subst (λ (given : ConstraintsValue). FollowsRows net c.args.other.now given) (sym (ap (λ (p : PricedValue). p.live.given) c.settle_noted.ensures.settled.unchanged)) c.in-Ok.ensures.follows in
    few_read_for net c.args.day.now.rows.now c.args.priced.now.live c.turn_to.new.priced.live c.settle_noted.new.priced.live c.args.steps.now c.turn_to.new.steps c.settle_noted.new.steps
    c.requires.at_rest c.requires.follows
    (follows_least net c.args.day.now.rows.now c.args.priced.now.live known c.requires.priced.live c.requires.at_rest c.requires.follows)
    (change_in c.args.what.now) c.args.other.now c.requires.other c.args.day.now.sized c.requires.reaches
    c.requires.priced.live.marked.as_many_times c.in-Ok.ensures.follows c.settle_noted.ensures.settled.few_reads
    (follows_least net c.args.other.now c.settle_noted.new.priced.live known c.settle_noted.ensures.settled.priced.live c.settle_noted.ensures.settled.at_rest settled)
    c.in-Ok.ensures.marks kind on

pub returns-in-Err-clause-few_reads : goal.returns-in-Err-clause-few_reads
returns-in-Err-clause-few_reads g c = λ kind on.
    let none : HasNoCycle c.args.day.now.net.now c.args.other.now =
    subst (HasNoCycle c.args.day.now.net.now) (sym c.requires.other)
    (harmless c.args.day.now.net.now c.args.day.now.rows.now (change_in c.args.what.now) kind (event_is_reached c.args.day.now.rows.now (change_in c.args.what.now) c.requires.reaches)
    (follows_no_cycle c.args.day.now.net.now c.args.day.now.rows.now c.args.priced.now.live c.requires.priced.live c.requires.follows)) in
    absurd (none c.turn_to.new.priced.live.order.cycle c.in-Err.ensures.cycle)

pub turn_to-requires-clause-flags : goal.turn_to-requires-clause-flags
turn_to-requires-clause-flags g c =
    subst (λ (rows : RowsValue). AreFlagsBut c.args.day.now.net.now rows (change_in c.args.what.now) (flags_of c.args.priced.now)) (sym c.requires.other)
    (flags_but_after c.args.day.now.net.now c.reveal.ensures.network.formed.ends_are_known c.args.day.now.rows.now (change_in c.args.what.now) (flags_of c.args.priced.now) c.requires.flags)

pub come_back-requires-clause-flags : goal.come_back-requires-clause-flags
come_back-requires-clause-flags g c =
    flags_but_before c.args.day.now.net.now c.reveal.ensures.network.formed.ends_are_known c.args.day.now.rows.now (change_in c.args.what.now) (flags_of c.turn_to.new.priced)
    (subst (λ (rows : RowsValue). AreFlagsOf c.args.day.now.net.now rows (flags_of c.turn_to.new.priced)) c.requires.other c.turn_to.ensures.flags)

pub returns-in-Ok-clause-flags : goal.returns-in-Ok-clause-flags
returns-in-Ok-clause-flags g c =
    subst (AreFlagsOf c.args.day.now.net.now c.args.other.now) (sym (ap flags_of c.settle_noted.ensures.settled.unchanged)) c.turn_to.ensures.flags

pub turn_to-requires-clause-clock : goal.turn_to-requires-clause-clock
turn_to-requires-clause-clock g c =
    other_at_clock c.args.day.now.net.now c.args.day.now.rows.now c.args.other.now (change_in c.args.what.now) c.requires.other c.args.priced.now.live.given
    c.clock.result c.clock.ensures.value c.requires.follows

pub come_back-requires-clause-clock : goal.come_back-requires-clause-clock
come_back-requires-clause-clock g c =
    rows_at_clock c.args.day.now.net.now c.args.day.now.rows.now c.args.other.now (change_in c.args.what.now) c.requires.other c.turn_to.new.priced.live.given
    c.clock-in-Err.result c.clock-in-Err.ensures.value c.turn_to.ensures.clock

pub note_passed-requires : goal.note_passed-requires
note_passed-requires g c = λ i moves.
    let below = pass_is_reached c.args.day.now.net.now c.args.day.now.rows.now (change_in c.args.what.now) c.args.day.now.sized c.requires.reaches i moves in
    let size = c.args.day.now.sized.passed in
    let many = c.requires.noted in
    omega arith

pub returns-in-Ok-clause-moved : goal.returns-in-Ok-clause-moved
returns-in-Ok-clause-moved g c =
    takes_in_both c.args.moved.now.flags c.note_passed.new.moved.flags c.settle_noted.new.moved.flags
    c.args.priced.now.live.times c.turn_to.new.priced.live.times c.settle_noted.new.priced.live.times
    (takes_in_each (MovesPass (change_in c.args.what.now)) c.args.moved.now.flags c.note_passed.new.moved.flags c.args.priced.now.live.times c.turn_to.new.priced.live.times
    c.note_passed.ensures c.in-Ok.ensures.times)
    c.settle_noted.ensures.moved

pub returns-in-Err-clause-moved : goal.returns-in-Err-clause-moved
returns-in-Err-clause-moved g c =
    takes_in_none c.args.moved.now.flags c.args.priced.now.live.times c.come_back.new.priced.live.times (returns-in-Err-clause-times g c)

pub returns-in-Ok-clause-cancelled : goal.returns-in-Ok-clause-cancelled
returns-in-Ok-clause-cancelled g c =
    takes_in_cancelled c.args.day.now.rows.now c.args.other.now (change_in c.args.what.now) c.requires.other c.args.moved.now.flags c.note_passed.new.moved.flags
    c.settle_noted.new.moved.flags c.turn_to.new.priced.live.times c.settle_noted.new.priced.live.times c.note_passed.ensures c.settle_noted.ensures.moved

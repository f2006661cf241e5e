use Rattle.std.proofs.Common.{sym, subst}
use Rattle.std.proofs.lemmas.Result.{on_ok_weaker}
use Rattle.dm_rows.specs.Rows.{RowsValue}
use Rattle.dm_propagate.specs.Inside.Altering.{change_in}
use Rattle.dm_propagate.specs.Inside.Concern.{FollowsBut}
use Rattle.dm_propagate.proofs.AtClock.{other_at_clock, rows_at_clock}
use Rattle.dm_propagate.proofs.Concerning.{follows_but_after, follows_but_before}
use Rattle.dm_propagate.specs.Inside.Flags.{flags_of, AreFlagsOf, AreFlagsBut}
use Rattle.dm_propagate.proofs.Flagging.{flags_but_after, flags_but_before}
use Rattle.dm_propagate.proofs.Following.{follows_least, follows_no_cycle, one_least}
use Rattle.dm_propagate.proofs.Reaching.{reaches_alike, cancel_keeps_passed}
use Rattle.dm_propagate.proofs.moving.try_rows.Goals as goal

pub turn_to-outcome-requires-clause-reaches : goal.turn_to-outcome-requires-clause-reaches
turn_to-outcome-requires-clause-reaches g c =
    reaches_alike c.args.day.now.net.now c.args.day.now.rows.now c.args.other.now c.args.day.now.sized c.requires.other_sized (change_in c.args.what.now)
    (cancel_keeps_passed c.args.day.now.rows.now c.args.other.now (change_in c.args.what.now) c.requires.other) c.requires.reaches

pub turn_to-outcome-requires-clause-follows : goal.turn_to-outcome-requires-clause-follows
turn_to-outcome-requires-clause-follows g c =
    subst (λ (rows : RowsValue). FollowsBut c.args.day.now.net.now rows (change_in c.args.what.now) c.args.priced.now.live.given) (sym c.requires.other)
    (follows_but_after c.args.day.now.net.now c.reveal.ensures.network.formed.is_paired c.args.day.now.rows.now (change_in c.args.what.now) c.args.priced.now.live.given c.requires.follows)

pub come_back-requires-clause-follows : goal.come_back-requires-clause-follows
come_back-requires-clause-follows g c =
    follows_but_before c.args.day.now.net.now c.reveal.ensures.network.formed.is_paired c.args.day.now.rows.now (change_in c.args.what.now) c.turn_to-outcome.new.priced.live.given
    (subst (λ (rows : RowsValue). FollowsBut c.args.day.now.net.now rows (change_in c.args.what.now) c.turn_to-outcome.new.priced.live.given) c.requires.other
    c.turn_to-outcome.ensures.followed)

pub come_back-requires-clause-no_cycle : goal.come_back-requires-clause-no_cycle
come_back-requires-clause-no_cycle g c =
    follows_no_cycle c.args.day.now.net.now c.args.day.now.rows.now c.args.priced.now.live c.requires.priced.live c.requires.follows

pub returns-clause-times : goal.returns-clause-times
returns-clause-times g c =
    one_least c.args.day.now.net.now c.args.day.now.rows.now c.come_back.new.priced.live.times c.args.priced.now.live.times c.come_back.ensures.least
    (follows_least c.args.day.now.net.now c.args.day.now.rows.now c.args.priced.now.live c.reveal.ensures.network.formed.ends_are_known c.requires.priced.live c.requires.at_rest c.requires.follows)

pub returns-clause-no_cycle : goal.returns-clause-no_cycle
returns-clause-no_cycle g c =
    on_ok_weaker c.turn_to-outcome.result
    (λ follows. follows_no_cycle c.args.day.now.net.now c.args.other.now c.turn_to-outcome.new.priced.live c.turn_to-outcome.ensures.priced.live follows)
    c.turn_to-outcome.ensures.follows

pub turn_to-outcome-requires-clause-flags : goal.turn_to-outcome-requires-clause-flags
turn_to-outcome-requires-clause-flags g c =
    subst (λ (rows : RowsValue). AreFlagsBut c.args.day.now.net.now rows (change_in c.args.what.now) (flags_of c.args.priced.now)) (sym c.requires.other)
    (flags_but_after c.args.day.now.net.now c.reveal.ensures.network.formed.ends_are_known c.args.day.now.rows.now (change_in c.args.what.now) (flags_of c.args.priced.now) c.requires.flags)

pub come_back-requires-clause-flags : goal.come_back-requires-clause-flags
come_back-requires-clause-flags g c =
    flags_but_before c.args.day.now.net.now c.reveal.ensures.network.formed.ends_are_known c.args.day.now.rows.now (change_in c.args.what.now) (flags_of c.turn_to-outcome.new.priced)
    (subst (λ (rows : RowsValue). AreFlagsOf c.args.day.now.net.now rows (flags_of c.turn_to-outcome.new.priced)) c.requires.other c.turn_to-outcome.ensures.flags)

pub turn_to-outcome-requires-clause-clock : goal.turn_to-outcome-requires-clause-clock
turn_to-outcome-requires-clause-clock g c =
    other_at_clock c.args.day.now.net.now c.args.day.now.rows.now c.args.other.now (change_in c.args.what.now) c.requires.other c.args.priced.now.live.given
    c.clock.result c.clock.ensures.value c.requires.follows

pub come_back-requires-clause-clock : goal.come_back-requires-clause-clock
come_back-requires-clause-clock g c =
    rows_at_clock c.args.day.now.net.now c.args.day.now.rows.now c.args.other.now (change_in c.args.what.now) c.requires.other c.turn_to-outcome.new.priced.live.given
    c.clock-2.result c.clock-2.ensures.value c.turn_to-outcome.ensures.clock

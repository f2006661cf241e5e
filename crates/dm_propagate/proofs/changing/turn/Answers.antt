use Rattle.std.proofs.Common.{◌≡◌, ◌<◌, ℕ, [], ◌∷◌, length, refl, subst, sym, ap, ◌∙◌, inl, arith}
use Rattle.std.specs.Result.{OnOk}
use Rattle.std.proofs.lemmas.Result.{on_ok_weaker, on_err_weaker}
use Rattle.dm_rows.specs.declared.messages.Change.{Change}
use Rattle.dm_priced.specs.Priced.{PricedValue}
use Rattle.dm_live.specs.Live.{with_floor, with_span}
use Rattle.dm_propagate.specs.Inside.Changing.{FollowsAt, MarksFor}
use Rattle.dm_propagate.specs.Inside.Concern.{IsConcerned, IsDecided, IsDecidedBefore, LeadsAt, MovesFloor, MovesSpan}
use Rattle.dm_propagate.specs.Inside.Flags.{flags_of, AreFlagsOf, MovesPass, MovesCharge, IsNamed, IsOut}
use Rattle.dm_propagate.proofs.Bringing.{floor_moved, off_or_not, times_stay, times_but, marks_one, marks_none, follows_still, follows_floor, follows_span, follows_floors, follows_at, followed_at, cycle_at, follows_by}
use Rattle.dm_propagate.proofs.Concerning.{followed_by_one, cycle_of_one, by_one}
use Rattle.dm_propagate.proofs.Flagging.{none_concerned, set_at, set_by, no_other, no_other_but, flags_stay}
use Rattle.dm_propagate.proofs.Delays.{delay_stays}
use Rattle.dm_propagate.proofs.Reaching.{delay_is_reached, act_is_reached, event_is_reached, recall_is_reached, cancel_is_reached, restore_is_reached}
use Rattle.dm_propagate.proofs.changing.turn.Goals as goal

pub returns-in-Passed-clause-marks : goal.returns-in-Passed-clause-marks
returns-in-Passed-clause-marks g c =
    subst (λ (change : Change). OnOk c.turn_event.result (MarksFor c.args.day.now.net.now c.args.day.now.rows.now change c.args.priced.now.live c.turn_event.new.priced.live
    c.args.steps.now c.turn_event.new.steps))
    (sym c.in-Passed.is) c.turn_event.ensures.passed

pub returns-in-Flipped-clause-followed : goal.returns-in-Flipped-clause-followed
returns-in-Flipped-clause-followed g c =
    on_err_weaker c.turn_by_flips.result
    (λ refused. followed_by_one c.args.day.now.net.now c.args.day.now.rows.now c.args.change.now c.in-Flipped.flip c.in-Flipped.is
    c.args.priced.now.live c.turn_by_flips.new.priced.live refused c.turn_by_flips.ensures.floors c.requires.follows)
    c.turn_by_flips.ensures.refused

pub returns-in-Flipped-clause-cycle : goal.returns-in-Flipped-clause-cycle
returns-in-Flipped-clause-cycle g c =
    on_err_weaker c.turn_by_flips.result
    (λ refused. cycle_of_one c.args.day.now.net.now c.args.day.now.rows.now c.args.change.now c.in-Flipped.flip c.in-Flipped.is
    c.args.priced.now.live c.turn_by_flips.new.priced.live refused c.requires.follows)
    c.turn_by_flips.ensures.refused

pub returns-in-EventDelay-clause-flags : goal.returns-in-EventDelay-clause-flags
returns-in-EventDelay-clause-flags g c =
    subst (AreFlagsOf c.args.day.now.net.now c.args.day.now.rows.now)
    (sym (flags_stay c.args.priced.now c.set_floor.new.self c.set_floor.ensures.others c.set_floor.ensures.fixed_stay))
    (none_concerned c.args.day.now.net.now c.args.day.now.rows.now c.args.change.now (flags_of c.args.priced.now)
    (λ i moves. subst (λ (change : Change). MovesPass change i) c.in-EventDelay.is moves)
    (λ a moves. subst (λ (change : Change). MovesCharge c.args.day.now.net.now (IsOut c.args.day.now.rows.now c.args.priced.now.cancelled) change a) c.in-EventDelay.is moves) c.requires.flags)

pub returns-in-ActDelay-clause-flags : goal.returns-in-ActDelay-clause-flags
returns-in-ActDelay-clause-flags g c =
    subst (AreFlagsOf c.args.day.now.net.now c.args.day.now.rows.now) (sym (ap flags_of c.set_span.ensures.span))
    (none_concerned c.args.day.now.net.now c.args.day.now.rows.now c.args.change.now (flags_of c.args.priced.now)
    (λ i moves. subst (λ (change : Change). MovesPass change i) c.in-ActDelay.is moves)
    (λ a moves. subst (λ (change : Change). MovesCharge c.args.day.now.net.now (IsOut c.args.day.now.rows.now c.args.priced.now.cancelled) change a) c.in-ActDelay.is moves) c.requires.flags)

pub returns-in-Clock-clause-flags : goal.returns-in-Clock-clause-flags
returns-in-Clock-clause-flags g c =
    subst (AreFlagsOf c.args.day.now.net.now c.args.day.now.rows.now) (sym (c.move_clock.ensures.flags))
    (none_concerned c.args.day.now.net.now c.args.day.now.rows.now c.args.change.now (flags_of c.args.priced.now)
    (λ i moves. subst (λ (change : Change). MovesPass change i) c.in-Clock.is moves)
    (λ a moves. subst (λ (change : Change). MovesCharge c.args.day.now.net.now (IsOut c.args.day.now.rows.now c.args.priced.now.cancelled) change a) c.in-Clock.is moves) c.requires.flags)

pub returns-in-Passed-clause-flags : goal.returns-in-Passed-clause-flags
returns-in-Passed-clause-flags g c =
    let many = c.requires.priced.as_many_passed in
    let size = c.args.day.now.sized.passed in
    let is_event = event_is_reached c.args.day.now.rows.now c.args.change.now c.requires.reaches c.in-Passed.event _ c.in-Passed.is in
    let below : c.in-Passed.event < length c.args.priced.now.passed = omega arith in
    let many_cancelled = c.requires.priced.as_many_cancelled in
    let there : c.in-Passed.event < length c.args.priced.now.cancelled = omega arith in
    let many_fixed = c.requires.priced.live.as_many_fixed in
    let within : c.in-Passed.event < length c.args.priced.now.live.fixed = omega arith in
    set_at c.args.day.now.net.now c.args.day.now.rows.now c.args.change.now c.in-Passed.event
    (λ i moves. subst (λ (change : Change). MovesPass change i) c.in-Passed.is moves)
    (flags_of c.args.priced.now) (flags_of c.turn_event.new.priced)
    (λ a moves. subst (λ (change : Change). MovesCharge c.args.day.now.net.now (IsOut c.args.day.now.rows.now c.args.priced.now.cancelled) change a) c.in-Passed.is moves)
    below there within c.turn_event.ensures.fixed c.requires.flags c.turn_event.ensures.flags

pub returns-in-Recalled-clause-flags : goal.returns-in-Recalled-clause-flags
returns-in-Recalled-clause-flags g c =
    let many = c.requires.priced.as_many_passed in
    let size = c.args.day.now.sized.passed in
    let is_event = recall_is_reached c.args.day.now.rows.now c.args.change.now c.requires.reaches c.in-Recalled.event c.in-Recalled.is in
    let below : c.in-Recalled.event < length c.args.priced.now.passed = omega arith in
    let many_cancelled = c.requires.priced.as_many_cancelled in
    let there : c.in-Recalled.event < length c.args.priced.now.cancelled = omega arith in
    let many_fixed = c.requires.priced.live.as_many_fixed in
    let within : c.in-Recalled.event < length c.args.priced.now.live.fixed = omega arith in
    set_at c.args.day.now.net.now c.args.day.now.rows.now c.args.change.now c.in-Recalled.event
    (λ i moves. subst (λ (change : Change). MovesPass change i) c.in-Recalled.is moves)
    (flags_of c.args.priced.now) (flags_of c.turn_event-in-Recalled.new.priced)
    (λ a moves. subst (λ (change : Change). MovesCharge c.args.day.now.net.now (IsOut c.args.day.now.rows.now c.args.priced.now.cancelled) change a) c.in-Recalled.is moves)
    below there within c.turn_event-in-Recalled.ensures.fixed c.requires.flags c.turn_event-in-Recalled.ensures.flags

pub returns-in-Flipped-clause-flags : goal.returns-in-Flipped-clause-flags
returns-in-Flipped-clause-flags g c =
    set_by c.args.day.now.net.now c.args.day.now.rows.now c.args.change.now (c.in-Flipped.flip ∷ [])
    (λ i moves. subst (λ (change : Change). MovesPass change i) c.in-Flipped.is moves)
    (flags_of c.args.priced.now) (flags_of c.turn_by_flips.new.priced)
    (λ a moves. by_one IsNamed c.in-Flipped.flip a (subst (λ (change : Change). MovesCharge c.args.day.now.net.now (IsOut c.args.day.now.rows.now c.args.priced.now.cancelled) change a) c.in-Flipped.is moves))
    c.requires.flags c.turn_by_flips.ensures.flags

pub move_clock-requires-clause-floors : goal.move_clock-requires-clause-floors
move_clock-requires-clause-floors g c =
    subst (λ (change : Change). FollowsAt c.args.day.now.net.now c.args.day.now.rows.now change c.args.earlier c.args.priced.now.live.given) c.in-Clock.is c.requires.clock

pub returns-in-Clock-clause-clock : goal.returns-in-Clock-clause-clock
returns-in-Clock-clause-clock g c =
    subst (λ (change : Change). FollowsAt c.args.day.now.net.now c.args.day.now.rows.now change c.args.day.now.rows.now.clock c.move_clock.new.priced.live.given) (sym c.in-Clock.is)
    c.move_clock.ensures.floors.floors

pub turn_event-requires-clause-open : goal.turn_event-requires-clause-open
turn_event-requires-clause-open g c =
    no_other_but c.args.day.now.net.now c.args.day.now.rows.now c.args.change.now c.in-Passed.event (flags_of c.args.priced.now)
    (λ i moves. subst (λ (change : Change). MovesPass change i) c.in-Passed.is moves) c.requires.flags

pub turn_event-requires-in-Recalled-clause-open : goal.turn_event-requires-in-Recalled-clause-open
turn_event-requires-in-Recalled-clause-open g c =
    no_other_but c.args.day.now.net.now c.args.day.now.rows.now c.args.change.now c.in-Recalled.event (flags_of c.args.priced.now)
    (λ i moves. subst (λ (change : Change). MovesPass change i) c.in-Recalled.is moves) c.requires.flags

pub turn_by_flips-requires-clause-open : goal.turn_by_flips-requires-clause-open
turn_by_flips-requires-clause-open g c =
    no_other c.args.day.now.net.now c.args.day.now.rows.now c.args.change.now (flags_of c.args.priced.now)
    (λ i moves. subst (λ (change : Change). MovesPass change i) c.in-Flipped.is moves) c.requires.flags

pub set_floor-requires-clause-stays : goal.set_floor-requires-clause-stays
set_floor-requires-clause-stays g c = λ on.
    c.floor_of.ensures.value
    ∙ delay_stays c.args.day.now.net.now c.args.day.now.rows.now c.args.priced.now.live.given (flags_of c.args.priced.now) c.args.change.now c.in-EventDelay.event _ c.in-EventDelay.is
    c.requires.reaches c.args.day.now.sized.event_delays c.requires.follows c.requires.flags on

pub returns-in-EventDelay-clause-follows : goal.returns-in-EventDelay-clause-follows
returns-in-EventDelay-clause-follows g c =
    let reached = delay_is_reached c.args.day.now.rows.now c.args.change.now c.requires.reaches c.in-EventDelay.event _ c.in-EventDelay.is in
    let many = c.args.day.now.sized.event_delays in
    let size = c.requires.priced.live.sized.floors in
    let below : c.in-EventDelay.event < length c.args.priced.now.live.given.floors = omega arith in
    follows_floor c.args.day.now.net.now c.args.day.now.rows.now c.args.change.now c.args.priced.now.live.given c.set_floor.new.self.live.given c.requires.follows c.in-EventDelay.event below
    (c.set_floor.ensures.floor ∙ ap (with_floor c.args.priced.now.live.given c.in-EventDelay.event) c.floor_of.ensures.value)
    (λ i at. floor_moved c.args.day.now.rows.now c.args.change.now c.in-EventDelay.event _ i c.in-EventDelay.is at)
    (λ b at. subst (λ (change : Change). IsConcerned c.args.day.now.net.now change b) c.in-EventDelay.is at)
    (λ a at. subst (λ (change : Change). MovesSpan change a) c.in-EventDelay.is at)

pub returns-in-EventDelay-clause-marks : goal.returns-in-EventDelay-clause-marks
returns-in-EventDelay-clause-marks g c =
    subst (λ (change : Change). MarksFor c.args.day.now.net.now c.args.day.now.rows.now change c.args.priced.now.live c.set_floor.new.self.live c.args.steps.now c.args.steps.now) (sym c.in-EventDelay.is)
    (marks_one c.in-EventDelay.event c.args.steps.now c.args.steps.now c.args.priced.now.live c.set_floor.new.self.live c.set_floor.ensures.times
    (off_or_not _ _ _ _ _ c.set_floor.ensures.marked c.set_floor.ensures.unmarked) refl)

pub returns-in-EventDelay-clause-times : goal.returns-in-EventDelay-clause-times
returns-in-EventDelay-clause-times g c =
    times_stay (MovesPass c.args.change.now) c.args.priced.now.live.times c.set_floor.new.self.live.times c.set_floor.ensures.times

pub returns-in-ActDelay-clause-follows : goal.returns-in-ActDelay-clause-follows
returns-in-ActDelay-clause-follows g c =
    let reached = act_is_reached c.args.day.now.rows.now c.args.change.now c.requires.reaches c.in-ActDelay.act _ c.in-ActDelay.is in
    let many = c.args.day.now.sized.act_delays in
    let size = c.requires.priced.live.sized.spans in
    let below : c.in-ActDelay.act < length c.args.priced.now.live.given.spans = omega arith in
    follows_span c.args.day.now.net.now c.args.day.now.rows.now c.args.change.now c.args.priced.now.live.given c.set_span.new.self.live.given c.requires.follows c.in-ActDelay.act below
    (ap (λ (p : PricedValue). p.live.given) c.set_span.ensures.span ∙ ap (with_span c.args.priced.now.live.given c.in-ActDelay.act) c.span_of.ensures.value)
    (λ a at. subst (λ (change : Change). MovesSpan change a) c.in-ActDelay.is at)
    (λ b at. subst (λ (change : Change). IsConcerned c.args.day.now.net.now change b) c.in-ActDelay.is at)
    (λ i at. subst (λ (change : Change). MovesFloor c.args.day.now.rows.now change i) c.in-ActDelay.is at)

pub returns-in-ActDelay-clause-marks : goal.returns-in-ActDelay-clause-marks
returns-in-ActDelay-clause-marks g c =
    subst (λ (change : Change). MarksFor c.args.day.now.net.now c.args.day.now.rows.now change c.args.priced.now.live c.set_span.new.self.live c.args.steps.now c.args.steps.now) (sym c.in-ActDelay.is)
    (marks_one _ c.args.steps.now c.args.steps.now c.args.priced.now.live c.set_span.new.self.live (ap (λ (p : PricedValue). p.live.times) c.set_span.ensures.span)
    (inl (ap (λ (p : PricedValue). p.live.marks) c.set_span.ensures.span)) refl)

pub returns-in-ActDelay-clause-times : goal.returns-in-ActDelay-clause-times
returns-in-ActDelay-clause-times g c =
    times_stay (MovesPass c.args.change.now) c.args.priced.now.live.times c.set_span.new.self.live.times (ap (λ (p : PricedValue). p.live.times) c.set_span.ensures.span)

pub returns-in-Clock-clause-follows : goal.returns-in-Clock-clause-follows
returns-in-Clock-clause-follows g c =
    follows_floors c.args.day.now.net.now c.args.day.now.rows.now c.args.change.now c.args.priced.now.live c.move_clock.new.priced.live c.requires.follows c.move_clock.ensures.floors
    (λ b at. subst (λ (change : Change). IsConcerned c.args.day.now.net.now change b) c.in-Clock.is at)
    (λ a at. subst (λ (change : Change). MovesSpan change a) c.in-Clock.is at)

pub returns-in-Clock-clause-marks : goal.returns-in-Clock-clause-marks
returns-in-Clock-clause-marks g c =
    subst (λ (change : Change). MarksFor c.args.day.now.net.now c.args.day.now.rows.now change c.args.priced.now.live c.move_clock.new.priced.live c.args.steps.now c.args.steps.now) (sym c.in-Clock.is)
    (record { times = c.move_clock.ensures.floors.times; marked = c.move_clock.ensures.floors.marked; steps = refl })

pub returns-in-Clock-clause-times : goal.returns-in-Clock-clause-times
returns-in-Clock-clause-times g c =
    times_stay (MovesPass c.args.change.now) c.args.priced.now.live.times c.move_clock.new.priced.live.times c.move_clock.ensures.floors.times

pub returns-in-Passed-clause-follows : goal.returns-in-Passed-clause-follows
returns-in-Passed-clause-follows g c =
    let reached = event_is_reached c.args.day.now.rows.now c.args.change.now c.requires.reaches c.in-Passed.event _ c.in-Passed.is in
    let many = c.args.day.now.sized.passed in
    let size = c.requires.priced.live.sized.floors in
    let below : c.in-Passed.event < length c.args.priced.now.live.given.floors = omega arith in
    on_ok_weaker c.turn_event.result
    (λ turns. follows_at c.args.day.now.net.now c.args.day.now.rows.now c.args.change.now c.args.priced.now.live c.turn_event.new.priced.live c.requires.follows c.in-Passed.event
    (λ b at. subst (λ (change : Change). IsConcerned c.args.day.now.net.now change b) c.in-Passed.is at)
    (λ i at. subst (λ (change : Change). MovesFloor c.args.day.now.rows.now change i) c.in-Passed.is at)
    (λ a at. subst (λ (change : Change). MovesSpan change a) c.in-Passed.is at)
    below c.turn_event.ensures.floors turns)
    c.turn_event.ensures.turned

pub returns-in-Passed-clause-followed : goal.returns-in-Passed-clause-followed
returns-in-Passed-clause-followed g c =
    let reached = event_is_reached c.args.day.now.rows.now c.args.change.now c.requires.reaches c.in-Passed.event _ c.in-Passed.is in
    let many = c.args.day.now.sized.passed in
    let size = c.requires.priced.live.sized.floors in
    let below : c.in-Passed.event < length c.args.priced.now.live.given.floors = omega arith in
    on_err_weaker c.turn_event.result
    (λ refused. followed_at c.args.day.now.net.now c.args.day.now.rows.now c.args.change.now c.args.priced.now.live c.turn_event.new.priced.live c.requires.follows c.in-Passed.event
    (λ b at. subst (λ (change : Change). IsConcerned c.args.day.now.net.now change b) c.in-Passed.is at)
    (λ b at. subst (λ (change : Change). IsConcerned c.args.day.now.net.now change b) (sym c.in-Passed.is) at)
    (λ i at. subst (λ (change : Change). MovesFloor c.args.day.now.rows.now change i) c.in-Passed.is at)
    below c.turn_event.ensures.floors refused)
    c.turn_event.ensures.refused

pub returns-in-Passed-clause-cycle : goal.returns-in-Passed-clause-cycle
returns-in-Passed-clause-cycle g c =
    on_err_weaker c.turn_event.result
    (λ refused. cycle_at c.args.day.now.net.now c.args.day.now.rows.now c.args.change.now c.args.priced.now.live c.turn_event.new.priced.live c.requires.follows (LeadsAt c.args.day.now.net.now c.in-Passed.event)
    (λ b at. subst (λ (change : Change). IsConcerned c.args.day.now.net.now change b) c.in-Passed.is at) refused)
    c.turn_event.ensures.refused

pub returns-in-Passed-clause-cycle_stays : goal.returns-in-Passed-clause-cycle_stays
returns-in-Passed-clause-cycle_stays g c =
    on_ok_weaker c.turn_event.result (λ turns. turns.cycle) c.turn_event.ensures.turned

pub returns-in-Passed-clause-times : goal.returns-in-Passed-clause-times
returns-in-Passed-clause-times g c =
    on_ok_weaker c.turn_event.result
    (λ keeps. times_but (λ (e : ℕ). e ≡ c.in-Passed.event) (MovesPass c.args.change.now) c.args.priced.now.live.times c.turn_event.new.priced.live.times
    (λ i at. subst (λ (change : Change). MovesPass change i) (sym c.in-Passed.is) at) keeps)
    c.turn_event.ensures.times

pub returns-in-Recalled-clause-follows : goal.returns-in-Recalled-clause-follows
returns-in-Recalled-clause-follows g c =
    let reached = recall_is_reached c.args.day.now.rows.now c.args.change.now c.requires.reaches c.in-Recalled.event c.in-Recalled.is in
    let many = c.args.day.now.sized.passed in
    let size = c.requires.priced.live.sized.floors in
    let below : c.in-Recalled.event < length c.args.priced.now.live.given.floors = omega arith in
    on_ok_weaker c.turn_event-in-Recalled.result
    (λ turns. follows_at c.args.day.now.net.now c.args.day.now.rows.now c.args.change.now c.args.priced.now.live c.turn_event-in-Recalled.new.priced.live c.requires.follows c.in-Recalled.event
    (λ b at. subst (λ (change : Change). IsConcerned c.args.day.now.net.now change b) c.in-Recalled.is at)
    (λ i at. subst (λ (change : Change). MovesFloor c.args.day.now.rows.now change i) c.in-Recalled.is at)
    (λ a at. subst (λ (change : Change). MovesSpan change a) c.in-Recalled.is at)
    below c.turn_event-in-Recalled.ensures.floors turns)
    c.turn_event-in-Recalled.ensures.turned

pub returns-in-Recalled-clause-followed : goal.returns-in-Recalled-clause-followed
returns-in-Recalled-clause-followed g c =
    let reached = recall_is_reached c.args.day.now.rows.now c.args.change.now c.requires.reaches c.in-Recalled.event c.in-Recalled.is in
    let many = c.args.day.now.sized.passed in
    let size = c.requires.priced.live.sized.floors in
    let below : c.in-Recalled.event < length c.args.priced.now.live.given.floors = omega arith in
    on_err_weaker c.turn_event-in-Recalled.result
    (λ refused. followed_at c.args.day.now.net.now c.args.day.now.rows.now c.args.change.now c.args.priced.now.live c.turn_event-in-Recalled.new.priced.live c.requires.follows c.in-Recalled.event
    (λ b at. subst (λ (change : Change). IsConcerned c.args.day.now.net.now change b) c.in-Recalled.is at)
    (λ b at. subst (λ (change : Change). IsConcerned c.args.day.now.net.now change b) (sym c.in-Recalled.is) at)
    (λ i at. subst (λ (change : Change). MovesFloor c.args.day.now.rows.now change i) c.in-Recalled.is at)
    below c.turn_event-in-Recalled.ensures.floors refused)
    c.turn_event-in-Recalled.ensures.refused

pub returns-in-Recalled-clause-cycle : goal.returns-in-Recalled-clause-cycle
returns-in-Recalled-clause-cycle g c =
    on_err_weaker c.turn_event-in-Recalled.result
    (λ refused. cycle_at c.args.day.now.net.now c.args.day.now.rows.now c.args.change.now c.args.priced.now.live c.turn_event-in-Recalled.new.priced.live c.requires.follows (LeadsAt c.args.day.now.net.now c.in-Recalled.event)
    (λ b at. subst (λ (change : Change). IsConcerned c.args.day.now.net.now change b) c.in-Recalled.is at) refused)
    c.turn_event-in-Recalled.ensures.refused

pub returns-in-Recalled-clause-cycle_stays : goal.returns-in-Recalled-clause-cycle_stays
returns-in-Recalled-clause-cycle_stays g c =
    on_ok_weaker c.turn_event-in-Recalled.result (λ turns. turns.cycle) c.turn_event-in-Recalled.ensures.turned

pub returns-in-Recalled-clause-times : goal.returns-in-Recalled-clause-times
returns-in-Recalled-clause-times g c =
    on_ok_weaker c.turn_event-in-Recalled.result
    (λ keeps. times_but (λ (e : ℕ). e ≡ c.in-Recalled.event) (MovesPass c.args.change.now) c.args.priced.now.live.times c.turn_event-in-Recalled.new.priced.live.times
    (λ i at. subst (λ (change : Change). MovesPass change i) (sym c.in-Recalled.is) at) keeps)
    c.turn_event-in-Recalled.ensures.times

pub returns-in-Flipped-clause-follows : goal.returns-in-Flipped-clause-follows
returns-in-Flipped-clause-follows g c =
    on_ok_weaker c.turn_by_flips.result
    (λ turns. follows_by c.args.day.now.net.now c.args.day.now.rows.now c.args.change.now c.args.priced.now.live c.turn_by_flips.new.priced.live c.requires.follows (IsDecidedBefore c.args.day.now.net.now (c.in-Flipped.flip ∷ []) 1)
    (λ b at. by_one (IsDecided c.args.day.now.net.now) c.in-Flipped.flip b (subst (λ (change : Change). IsConcerned c.args.day.now.net.now change b) c.in-Flipped.is at))
    (λ i at. subst (λ (change : Change). MovesFloor c.args.day.now.rows.now change i) c.in-Flipped.is at)
    (λ a at. subst (λ (change : Change). MovesSpan change a) c.in-Flipped.is at)
    c.turn_by_flips.ensures.floors turns)
    c.turn_by_flips.ensures.turned

pub returns-in-Flipped-clause-cycle_stays : goal.returns-in-Flipped-clause-cycle_stays
returns-in-Flipped-clause-cycle_stays g c =
    on_ok_weaker c.turn_by_flips.result (λ turns. turns.cycle) c.turn_by_flips.ensures.turned

pub returns-in-Flipped-clause-times : goal.returns-in-Flipped-clause-times
returns-in-Flipped-clause-times g c =
    on_ok_weaker c.turn_by_flips.result (λ same. times_stay (MovesPass c.args.change.now) c.args.priced.now.live.times c.turn_by_flips.new.priced.live.times same) c.turn_by_flips.ensures.times

pub returns-in-Adopted-clause-times : goal.returns-in-Adopted-clause-times
returns-in-Adopted-clause-times g c =
    on_ok_weaker c.turn_adopted.result (λ same. times_stay (MovesPass c.args.change.now) c.args.priced.now.live.times c.turn_adopted.new.priced.live.times same) c.turn_adopted.ensures.times

pub returns-in-Cancelled-clause-flags : goal.returns-in-Cancelled-clause-flags
returns-in-Cancelled-clause-flags g c =
    let many = c.requires.priced.as_many_passed in
    let size = c.args.day.now.sized.cancelled in
    let is_event = (cancel_is_reached c.args.day.now.rows.now c.args.change.now c.requires.reaches c.in-Cancelled.event c.in-Cancelled.is).0 in
    let below : c.in-Cancelled.event < length c.args.priced.now.passed = omega arith in
    let many_cancelled = c.requires.priced.as_many_cancelled in
    let there : c.in-Cancelled.event < length c.args.priced.now.cancelled = omega arith in
    let many_fixed = c.requires.priced.live.as_many_fixed in
    let within : c.in-Cancelled.event < length c.args.priced.now.live.fixed = omega arith in
    set_at c.args.day.now.net.now c.args.day.now.rows.now c.args.change.now c.in-Cancelled.event
    (λ i moves. subst (λ (change : Change). MovesPass change i) c.in-Cancelled.is moves)
    (flags_of c.args.priced.now) (flags_of c.turn_event-in-Cancelled.new.priced)
    (λ a moves. subst (λ (change : Change). MovesCharge c.args.day.now.net.now (IsOut c.args.day.now.rows.now c.args.priced.now.cancelled) change a) c.in-Cancelled.is moves)
    below there within c.turn_event-in-Cancelled.ensures.fixed c.requires.flags c.turn_event-in-Cancelled.ensures.flags

pub returns-in-Restored-clause-flags : goal.returns-in-Restored-clause-flags
returns-in-Restored-clause-flags g c =
    let many = c.requires.priced.as_many_passed in
    let size = c.args.day.now.sized.cancelled in
    let is_event = restore_is_reached c.args.day.now.rows.now c.args.change.now c.requires.reaches c.in-Restored.event c.in-Restored.is in
    let below : c.in-Restored.event < length c.args.priced.now.passed = omega arith in
    let many_cancelled = c.requires.priced.as_many_cancelled in
    let there : c.in-Restored.event < length c.args.priced.now.cancelled = omega arith in
    let many_fixed = c.requires.priced.live.as_many_fixed in
    let within : c.in-Restored.event < length c.args.priced.now.live.fixed = omega arith in
    set_at c.args.day.now.net.now c.args.day.now.rows.now c.args.change.now c.in-Restored.event
    (λ i moves. subst (λ (change : Change). MovesPass change i) c.in-Restored.is moves)
    (flags_of c.args.priced.now) (flags_of c.turn_event-in-Restored.new.priced)
    (λ a moves. subst (λ (change : Change). MovesCharge c.args.day.now.net.now (IsOut c.args.day.now.rows.now c.args.priced.now.cancelled) change a) c.in-Restored.is moves)
    below there within c.turn_event-in-Restored.ensures.fixed c.requires.flags c.turn_event-in-Restored.ensures.flags

pub turn_event-requires-in-Cancelled-clause-open : goal.turn_event-requires-in-Cancelled-clause-open
turn_event-requires-in-Cancelled-clause-open g c =
    no_other_but c.args.day.now.net.now c.args.day.now.rows.now c.args.change.now c.in-Cancelled.event (flags_of c.args.priced.now)
    (λ i moves. subst (λ (change : Change). MovesPass change i) c.in-Cancelled.is moves) c.requires.flags

pub turn_event-requires-in-Restored-clause-open : goal.turn_event-requires-in-Restored-clause-open
turn_event-requires-in-Restored-clause-open g c =
    no_other_but c.args.day.now.net.now c.args.day.now.rows.now c.args.change.now c.in-Restored.event (flags_of c.args.priced.now)
    (λ i moves. subst (λ (change : Change). MovesPass change i) c.in-Restored.is moves) c.requires.flags

pub returns-in-Cancelled-clause-follows : goal.returns-in-Cancelled-clause-follows
returns-in-Cancelled-clause-follows g c =
    let reached = (cancel_is_reached c.args.day.now.rows.now c.args.change.now c.requires.reaches c.in-Cancelled.event c.in-Cancelled.is).0 in
    let many = c.args.day.now.sized.cancelled in
    let size = c.requires.priced.live.sized.floors in
    let below : c.in-Cancelled.event < length c.args.priced.now.live.given.floors = omega arith in
    on_ok_weaker c.turn_event-in-Cancelled.result
    (λ turns. follows_at c.args.day.now.net.now c.args.day.now.rows.now c.args.change.now c.args.priced.now.live c.turn_event-in-Cancelled.new.priced.live c.requires.follows c.in-Cancelled.event
    (λ b at. subst (λ (change : Change). IsConcerned c.args.day.now.net.now change b) c.in-Cancelled.is at)
    (λ i at. absurd (subst (λ (change : Change). MovesFloor c.args.day.now.rows.now change i) c.in-Cancelled.is at))
    (λ a at. subst (λ (change : Change). MovesSpan change a) c.in-Cancelled.is at)
    below c.turn_event-in-Cancelled.ensures.floors turns)
    c.turn_event-in-Cancelled.ensures.turned

pub returns-in-Restored-clause-follows : goal.returns-in-Restored-clause-follows
returns-in-Restored-clause-follows g c =
    let reached = restore_is_reached c.args.day.now.rows.now c.args.change.now c.requires.reaches c.in-Restored.event c.in-Restored.is in
    let many = c.args.day.now.sized.cancelled in
    let size = c.requires.priced.live.sized.floors in
    let below : c.in-Restored.event < length c.args.priced.now.live.given.floors = omega arith in
    on_ok_weaker c.turn_event-in-Restored.result
    (λ turns. follows_at c.args.day.now.net.now c.args.day.now.rows.now c.args.change.now c.args.priced.now.live c.turn_event-in-Restored.new.priced.live c.requires.follows c.in-Restored.event
    (λ b at. subst (λ (change : Change). IsConcerned c.args.day.now.net.now change b) c.in-Restored.is at)
    (λ i at. absurd (subst (λ (change : Change). MovesFloor c.args.day.now.rows.now change i) c.in-Restored.is at))
    (λ a at. subst (λ (change : Change). MovesSpan change a) c.in-Restored.is at)
    below c.turn_event-in-Restored.ensures.floors turns)
    c.turn_event-in-Restored.ensures.turned

pub returns-in-Cancelled-clause-followed : goal.returns-in-Cancelled-clause-followed
returns-in-Cancelled-clause-followed g c =
    let reached = (cancel_is_reached c.args.day.now.rows.now c.args.change.now c.requires.reaches c.in-Cancelled.event c.in-Cancelled.is).0 in
    let many = c.args.day.now.sized.cancelled in
    let size = c.requires.priced.live.sized.floors in
    let below : c.in-Cancelled.event < length c.args.priced.now.live.given.floors = omega arith in
    on_err_weaker c.turn_event-in-Cancelled.result
    (λ refused. followed_at c.args.day.now.net.now c.args.day.now.rows.now c.args.change.now c.args.priced.now.live c.turn_event-in-Cancelled.new.priced.live c.requires.follows c.in-Cancelled.event
    (λ b at. subst (λ (change : Change). IsConcerned c.args.day.now.net.now change b) c.in-Cancelled.is at)
    (λ b at. subst (λ (change : Change). IsConcerned c.args.day.now.net.now change b) (sym c.in-Cancelled.is) at)
    (λ i at. absurd (subst (λ (change : Change). MovesFloor c.args.day.now.rows.now change i) c.in-Cancelled.is at))
    below c.turn_event-in-Cancelled.ensures.floors refused)
    c.turn_event-in-Cancelled.ensures.refused

pub returns-in-Restored-clause-followed : goal.returns-in-Restored-clause-followed
returns-in-Restored-clause-followed g c =
    let reached = restore_is_reached c.args.day.now.rows.now c.args.change.now c.requires.reaches c.in-Restored.event c.in-Restored.is in
    let many = c.args.day.now.sized.cancelled in
    let size = c.requires.priced.live.sized.floors in
    let below : c.in-Restored.event < length c.args.priced.now.live.given.floors = omega arith in
    on_err_weaker c.turn_event-in-Restored.result
    (λ refused. followed_at c.args.day.now.net.now c.args.day.now.rows.now c.args.change.now c.args.priced.now.live c.turn_event-in-Restored.new.priced.live c.requires.follows c.in-Restored.event
    (λ b at. subst (λ (change : Change). IsConcerned c.args.day.now.net.now change b) c.in-Restored.is at)
    (λ b at. subst (λ (change : Change). IsConcerned c.args.day.now.net.now change b) (sym c.in-Restored.is) at)
    (λ i at. absurd (subst (λ (change : Change). MovesFloor c.args.day.now.rows.now change i) c.in-Restored.is at))
    below c.turn_event-in-Restored.ensures.floors refused)
    c.turn_event-in-Restored.ensures.refused

pub returns-in-Cancelled-clause-cycle : goal.returns-in-Cancelled-clause-cycle
returns-in-Cancelled-clause-cycle g c =
    on_err_weaker c.turn_event-in-Cancelled.result
    (λ refused. cycle_at c.args.day.now.net.now c.args.day.now.rows.now c.args.change.now c.args.priced.now.live c.turn_event-in-Cancelled.new.priced.live c.requires.follows (LeadsAt c.args.day.now.net.now c.in-Cancelled.event)
    (λ b at. subst (λ (change : Change). IsConcerned c.args.day.now.net.now change b) c.in-Cancelled.is at) refused)
    c.turn_event-in-Cancelled.ensures.refused

pub returns-in-Restored-clause-cycle : goal.returns-in-Restored-clause-cycle
returns-in-Restored-clause-cycle g c =
    on_err_weaker c.turn_event-in-Restored.result
    (λ refused. cycle_at c.args.day.now.net.now c.args.day.now.rows.now c.args.change.now c.args.priced.now.live c.turn_event-in-Restored.new.priced.live c.requires.follows (LeadsAt c.args.day.now.net.now c.in-Restored.event)
    (λ b at. subst (λ (change : Change). IsConcerned c.args.day.now.net.now change b) c.in-Restored.is at) refused)
    c.turn_event-in-Restored.ensures.refused

pub returns-in-Cancelled-clause-cycle_stays : goal.returns-in-Cancelled-clause-cycle_stays
returns-in-Cancelled-clause-cycle_stays g c =
    on_ok_weaker c.turn_event-in-Cancelled.result (λ turns. turns.cycle) c.turn_event-in-Cancelled.ensures.turned

pub returns-in-Restored-clause-cycle_stays : goal.returns-in-Restored-clause-cycle_stays
returns-in-Restored-clause-cycle_stays g c =
    on_ok_weaker c.turn_event-in-Restored.result (λ turns. turns.cycle) c.turn_event-in-Restored.ensures.turned

pub returns-in-Cancelled-clause-times : goal.returns-in-Cancelled-clause-times
returns-in-Cancelled-clause-times g c =
    on_ok_weaker c.turn_event-in-Cancelled.result
    (λ keeps. times_but (λ (e : ℕ). e ≡ c.in-Cancelled.event) (MovesPass c.args.change.now) c.args.priced.now.live.times c.turn_event-in-Cancelled.new.priced.live.times
    (λ i at. subst (λ (change : Change). MovesPass change i) (sym c.in-Cancelled.is) at) keeps)
    c.turn_event-in-Cancelled.ensures.times

pub returns-in-Restored-clause-times : goal.returns-in-Restored-clause-times
returns-in-Restored-clause-times g c =
    on_ok_weaker c.turn_event-in-Restored.result
    (λ keeps. times_but (λ (e : ℕ). e ≡ c.in-Restored.event) (MovesPass c.args.change.now) c.args.priced.now.live.times c.turn_event-in-Restored.new.priced.live.times
    (λ i at. subst (λ (change : Change). MovesPass change i) (sym c.in-Restored.is) at) keeps)
    c.turn_event-in-Restored.ensures.times

pub returns-in-Cancelled-clause-marks : goal.returns-in-Cancelled-clause-marks
returns-in-Cancelled-clause-marks g c =
    let rows = c.args.day.now.rows.now in
    let reached = cancel_is_reached rows c.args.change.now c.requires.reaches c.in-Cancelled.event c.in-Cancelled.is in
    let runs = reached.1 in
    subst (λ (change : Change). OnOk c.turn_event-in-Cancelled.result (MarksFor c.args.day.now.net.now rows change c.args.priced.now.live
    c.turn_event-in-Cancelled.new.priced.live c.args.steps.now c.turn_event-in-Cancelled.new.steps))
    (sym c.in-Cancelled.is) (on_ok_weaker c.turn_event-in-Cancelled.result (λ taken. taken runs) c.turn_event-in-Cancelled.ensures.cancelled)

pub returns-in-Locked-clause-follows : goal.returns-in-Locked-clause-follows
returns-in-Locked-clause-follows g c =
    follows_still c.args.day.now.net.now c.args.day.now.rows.now c.args.change.now c.args.priced.now.live.given c.requires.follows
    (λ b at. subst (λ (change : Change). IsConcerned c.args.day.now.net.now change b) c.in-Locked.is at)
    (λ i at. subst (λ (change : Change). MovesFloor c.args.day.now.rows.now change i) c.in-Locked.is at)
    (λ a at. subst (λ (change : Change). MovesSpan change a) c.in-Locked.is at)

pub returns-in-Locked-clause-flags : goal.returns-in-Locked-clause-flags
returns-in-Locked-clause-flags g c =
    none_concerned c.args.day.now.net.now c.args.day.now.rows.now c.args.change.now (flags_of c.args.priced.now)
    (λ i moves. subst (λ (change : Change). MovesPass change i) c.in-Locked.is moves)
    (λ a moves. subst (λ (change : Change). MovesCharge c.args.day.now.net.now (IsOut c.args.day.now.rows.now c.args.priced.now.cancelled) change a) c.in-Locked.is moves)
    c.requires.flags

pub returns-in-Locked-clause-marks : goal.returns-in-Locked-clause-marks
returns-in-Locked-clause-marks g c =
    subst (λ (change : Change). MarksFor c.args.day.now.net.now c.args.day.now.rows.now change c.args.priced.now.live c.args.priced.now.live c.args.steps.now c.args.steps.now)
    (sym c.in-Locked.is) (marks_none c.args.priced.now.live c.args.steps.now)

pub returns-in-Locked-clause-times : goal.returns-in-Locked-clause-times
returns-in-Locked-clause-times g c =
    times_stay (MovesPass c.args.change.now) c.args.priced.now.live.times c.args.priced.now.live.times refl

pub returns-in-Unlocked-clause-follows : goal.returns-in-Unlocked-clause-follows
returns-in-Unlocked-clause-follows g c =
    follows_still c.args.day.now.net.now c.args.day.now.rows.now c.args.change.now c.args.priced.now.live.given c.requires.follows
    (λ b at. subst (λ (change : Change). IsConcerned c.args.day.now.net.now change b) c.in-Unlocked.is at)
    (λ i at. subst (λ (change : Change). MovesFloor c.args.day.now.rows.now change i) c.in-Unlocked.is at)
    (λ a at. subst (λ (change : Change). MovesSpan change a) c.in-Unlocked.is at)

pub returns-in-Unlocked-clause-flags : goal.returns-in-Unlocked-clause-flags
returns-in-Unlocked-clause-flags g c =
    none_concerned c.args.day.now.net.now c.args.day.now.rows.now c.args.change.now (flags_of c.args.priced.now)
    (λ i moves. subst (λ (change : Change). MovesPass change i) c.in-Unlocked.is moves)
    (λ a moves. subst (λ (change : Change). MovesCharge c.args.day.now.net.now (IsOut c.args.day.now.rows.now c.args.priced.now.cancelled) change a) c.in-Unlocked.is moves)
    c.requires.flags

pub returns-in-Unlocked-clause-marks : goal.returns-in-Unlocked-clause-marks
returns-in-Unlocked-clause-marks g c =
    subst (λ (change : Change). MarksFor c.args.day.now.net.now c.args.day.now.rows.now change c.args.priced.now.live c.args.priced.now.live c.args.steps.now c.args.steps.now)
    (sym c.in-Unlocked.is) (marks_none c.args.priced.now.live c.args.steps.now)

pub returns-in-Unlocked-clause-times : goal.returns-in-Unlocked-clause-times
returns-in-Unlocked-clause-times g c =
    times_stay (MovesPass c.args.change.now) c.args.priced.now.live.times c.args.priced.now.live.times refl

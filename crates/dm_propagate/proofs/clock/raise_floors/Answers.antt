use Rattle.std.proofs.Common.{◌≡◌, ◌∙◌, ◌<◌, length, slice_index, slice_index_or, ap, arith}
use Rattle.std.proofs.lemmas.List.{get_or_default}
use Rattle.dm_live.specs.Live.{LiveValue}
use Rattle.dm_schedule.specs.declared.schedule.Scheduled.{Scheduled}
use Rattle.dm_propagate.proofs.Raising.{stays_raised, right_from, raised_stays}
use Rattle.dm_propagate.specs.Inside.Flags.{FlagsValue}
use Rattle.dm_propagate.proofs.clock.raise_floors.Goals as goal

pub loop-scheduled-preserved-then-clock-floor : goal.loop-scheduled-preserved-then-clock-floor
loop-scheduled-preserved-then-clock-floor c =
    let net = c.args.day.now.net.now in
    let rows = c.args.day.now.rows.now in
    let due = c.args.due.now in
    let n = c.loop-scheduled.scheduled-index in
    let before = c.args.priced.now.live in
    let after = c.loop-scheduled.priced.live in
    let d : Scheduled = record { time = 0; event = 0 } in
    let i = (slice_index_or due n d).event in
    let within : n < length due = omega arith in
    let here = λ (e : Scheduled). ap (λ (s : Scheduled). s.event) (get_or_default due n e d within) in
    let so = c.loop-scheduled.invariant.2 in
    let same = ap (λ (live : LiveValue). slice_index live.given.floors i) c.live.ensures in
    let value : c.floor.result ≡ slice_index c.live.result.now.given.floors i =
    c.floor.ensures.value ∙ ap (λ (s : Scheduled). slice_index c.live.result.now.given.floors s.event) (get_or_default due n _ d within) in (
      c.loop-scheduled.invariant.0,
      c.loop-scheduled.invariant.1,
      stays_raised net rows due n i before after here
          (right_from net rows due n i c.args.clock before after (c.requires.are_events n d within) c.requires.stand so (omega arith)) so,
    )

pub loop-scheduled-preserved : goal.loop-scheduled-preserved
loop-scheduled-preserved c = (
  c.renew_floor.ensures.priced,
  c.renew_floor.ensures.flags ∙ c.loop-scheduled.invariant.1,
  c.renew_floor.ensures.next c.args.priced.now.live c.args.due.now c.loop-scheduled.scheduled-index
      (λ d. ap (λ (s : Scheduled). s.event) (get_or_default c.args.due.now c.loop-scheduled.scheduled-index d _ (omega arith))) c.loop-scheduled.invariant.2,
)

pub renew_floor-requires-clause-stays : goal.renew_floor-requires-clause-stays
renew_floor-requires-clause-stays c = λ on.
    raised_stays c.args.day.now.net.now c.args.day.now.rows.now c.args.due.now c.loop-scheduled.scheduled-index _ c.args.priced.now.live c.loop-scheduled.priced.live
    c.args.priced.now.live.fixed c.loop-scheduled.priced.live.fixed (ap (λ (f : FlagsValue). f.fixed) c.loop-scheduled.invariant.1) (c.requires.are_events c.loop-scheduled.scheduled-index _ (omega arith)) c.requires.stay c.loop-scheduled.invariant.2 on

use Rattle.std.proofs.Common.{◌≡◌, ◌<◌, length, Some, refl, arith, slice_get}
use Rattle.std.proofs.lemmas.Option.{slice_get_read}
use Rattle.dm_history.specs.Inside.Entering.{IsReplayedTo}
use Rattle.dm_history.proofs.Entered.{entered_next, all_accepted}
use Rattle.dm_history.proofs.replaying.replay.Goals as goal

pub loop-place-preserved : goal.loop-place-preserved
loop-place-preserved c =
    let within : c.loop-place.place < length c.args.entries.now = omega arith in
    let stands : slice_get c.args.entries.now c.loop-place.place ≡ Some c.index-entries-place.result =
    slice_get_read c.args.entries.now (length c.args.entries.now) c.loop-place.place c.index-entries-place.result refl within c.index-entries-place.is in
    entered_next c.args.net.now c.args.start.now c.args.entries.now c.loop-place.place c.index-entries-place.result stands
    c.loop-place.rows c.loop-place.known c.loop-place.invariant c.enter.new.rows c.in-Ok.is_free c.in-Ok.ensures.entered

pub returns-clause-legal : goal.returns-clause-legal
returns-clause-legal c =
    let over : c.loop-place.place ≡ length c.args.entries.now = omega arith in
    let done : IsReplayedTo c.args.net.now c.args.start.now c.args.entries.now (length c.args.entries.now) c.loop-place.rows c.loop-place.known =
    rw (← over) c.loop-place.invariant in
    all_accepted c.args.net.now c.args.start.now c.args.entries.now c.loop-place.rows c.loop-place.known done

use Rattle.std.proofs.Common.{ap, arith, refl}
use Rattle.dm_publish.specs.Inside.Refreshing.{published_by}
use Rattle.dm_publish.proofs.Gathered.{gathered_none}
use Rattle.dm_publish.proofs.Refreshed.{flag_given, flags_next}
use Rattle.dm_publish.proofs.refreshing.gather_flags.Goals as goal
use Rattle.dm_publish.proofs.refreshing.gather_flags.Goals.{then-needs_flag, else-needs_flag}

pub loop-listed-init : goal.loop-listed-init
loop-listed-init g c = (gathered_none c.args.net.now c.reveal.ensures.network _ _ (flag_given c.args.shown.cancelled.now) _ _ _ _ _ c.requires.empty, omega arith)

pub loop-listed-preserved : goal.loop-listed-preserved
loop-listed-preserved g c =
    let next = flags_next c.args.net.now c.reveal.ensures.network (published_by c.args.shown) _ c.args.part.now c.loop-listed.listed-index c.requires.at_stop c.loop-listed-test.true _
    c.loop-listed.changes.items c.event.result.now.id.0 _ c.loop-listed.invariant.0 (ap (λ (e : _). e.id.0) c.event.ensures) refl
    c.needs_flag.result c.needs_flag.ensures in
    elim c.if-needs_flag.branch [
      | then-needs_flag w ↦ (
        rw (w.changes-is, w.push_reserved.ensures.items) (rw w.if-needs_flag.true at next),
        rw w.changes-is (let grown = w.push_reserved.ensures.capacity in let had = c.loop-listed.invariant.1 in omega arith),
      )
      | else-needs_flag w ↦ (
        rw w.changes-is (rw w.if-needs_flag.false at next),
        rw w.changes-is c.loop-listed.invariant.1,
      )
    ]

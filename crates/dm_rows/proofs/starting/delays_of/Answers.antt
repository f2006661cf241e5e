use Rattle.std.proofs.Common.{ℕ, ◌<◌, ◌^◌, List, length, get_or, arith, sym}
use Rattle.std.proofs.lemmas.List.{get_or_default}
use Rattle.std.proofs.lemmas.Option.{slice_get-get_or}
use Rattle.dm_base.specs.declared.rows.DelayRow.{DelayRow}
use Rattle.dm_rows.specs.StartFaults.{DelaysAreWithin}
use Rattle.dm_rows.proofs.StartDelays.{one_more_delay, all_delays, all_known, delayed_alone, first_unknown}
use Rattle.dm_rows.proofs.starting.delays_of.Goals as goal

is_narrow : (records : List DelayRow) (k : ℕ) (d : DelayRow) → DelaysAreWithin records → k < length records → (get_or records k d).delay < 2 ^ 32
is_narrow records k d within lt =
    let small = within k (get_or records k d) (slice_get-get_or records k d lt) in
    omega (arith, small)

pub narrow-requires : goal.narrow-requires
narrow-requires c =
    is_narrow c.args.records.now c.loop-record.record-index (record { id = 0; delay = 0 }) c.requires c.loop-record-test.true

pub loop-record-preserved : goal.loop-record-preserved
loop-record-preserved c =
    rw c.narrow.ensures (
    one_more_delay _ _ _ c.args.records.now c.loop-record.record-index c.loop-record.delays.items _ c.in-Some.place c.requires
    c.loop-record.invariant c.loop-record-test.true
    (get_or_default c.args.records.now c.loop-record.record-index _ _ c.loop-record-test.true)
    (sym c.in-Some.ensures) (delayed_alone c.args.net.now c.reveal.ensures.network c.args.delayed _ c.in-Some.place (sym c.in-Some.ensures))
    )

pub returns-clause-delays : goal.returns-clause-delays
returns-clause-delays c = all_delays _ _ _ c.args.records.now c.loop-record.record-index _ (omega arith) c.loop-record.invariant

pub returns-clause-known : goal.returns-clause-known
returns-clause-known c = all_known _ _ _ c.args.records.now c.loop-record.record-index _ (omega arith) c.loop-record.invariant

pub returns-in_default-place-clause-refused : goal.returns-in_default-place-clause-refused
returns-in_default-place-clause-refused c =
    rw c.unknown.ensures
    (first_unknown c.args.net.now c.args.delayed c.args.records.now c.loop-record.record-index _ c.loop-record-test.true
    (get_or_default c.args.records.now c.loop-record.record-index _ _ c.loop-record-test.true)
    (sym c.in_default-place.ensures) c.loop-record.invariant.known)

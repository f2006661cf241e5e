use Rattle.std.proofs.Common.{◌<◌, ◌^◌, true, false, length, arith}
use Rattle.dm_store.proofs.Standing.{other_version, right_version}
use Rattle.dm_store.proofs.blocks.end_refusal.Goals as goal

pub returns-then-not-starts_with-clause-told : goal.returns-then-not-starts_with-clause-told
returns-then-not-starts_with-clause-told c = λ contents is.
    let short : length c.args.blocks.now < 2 ^ 64 = omega arith in
    other_version contents _ _ _ _ _ short is c.in-Some.ensures c.as_bytes.ensures.value c.if-not-starts_with.ensures.value

pub returns-then-is_crash_end-2-clause-told : goal.returns-then-is_crash_end-2-clause-told
returns-then-is_crash_end-2-clause-told c = λ contents is.
    let short : length c.args.blocks.now < 2 ^ 64 = omega arith in
    right_version contents _ _ _ _ _ true short is c.in-Some.ensures c.as_bytes.ensures.value c.if-not-starts_with.ensures.value c.if-is_crash_end-2.ensures

pub returns-else-is_crash_end-2-clause-told : goal.returns-else-is_crash_end-2-clause-told
returns-else-is_crash_end-2-clause-told c = λ contents is.
    let short : length c.args.blocks.now < 2 ^ 64 = omega arith in
    right_version contents _ _ _ _ _ false short is c.in-Some.ensures c.as_bytes.ensures.value c.if-not-starts_with.ensures.value c.if-is_crash_end-2.ensures

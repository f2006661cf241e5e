use Rattle.dm_parts.specs.declared.shares.Share.{Share}
use Rattle.dm_part_plans.proofs.Claimed.{arrivals_written, changes_written, new_arrivals_written, new_changes_written, changes_same, still_taken, one_more_share}
use Rattle.dm_part_plans.proofs.claiming.Claims.claim.Goals as goal

pub returns-in_default-clause-kept : goal.returns-in_default-clause-kept
returns-in_default-clause-kept c =
    let net = c.args.net.now in
    let held = c.args.self.now in
    λ shares t.
    still_taken net held.arrivals.items held.changes.items _ _ shares
    (arrivals_written net held.arrivals c.deref_mut.result.now c.claim_arrivals.new.flags c.deref_mut.ensures.value c.claim_arrivals.ensures.kept)
    (changes_same net held.changes.items) t

pub returns-in_default-2-clause-kept : goal.returns-in_default-2-clause-kept
returns-in_default-2-clause-kept c =
    let net = c.args.net.now in
    let held = c.args.self.now in
    λ shares t.
    still_taken net held.arrivals.items held.changes.items _ _ shares
    (arrivals_written net held.arrivals c.deref_mut.result.now c.claim_arrivals.new.flags c.deref_mut.ensures.value c.claim_arrivals.ensures.kept)
    (changes_written net held.changes c.deref_mut-2.result.now c.claim_changes.new.flags c.deref_mut-2.ensures.value c.claim_changes.ensures.kept) t

pub returns-clause-kept : goal.returns-clause-kept
returns-clause-kept c =
    let net = c.args.net.now in
    let held = c.args.self.now in
    λ shares t.
    still_taken net held.arrivals.items held.changes.items _ _ shares
    (arrivals_written net held.arrivals c.deref_mut.result.now c.claim_arrivals.new.flags c.deref_mut.ensures.value c.claim_arrivals.ensures.kept)
    (changes_written net held.changes c.deref_mut-2.result.now c.claim_changes.new.flags c.deref_mut-2.ensures.value c.claim_changes.ensures.kept) t

pub returns-clause-taken : goal.returns-clause-taken
returns-clause-taken c =
    let net = c.args.net.now in
    let held = c.args.self.now in
    let share : Share = record { arrivals = c.from_vec.result; changes = c.from_vec-2.result } in
    let arrivals = rw c.in-Some.is at c.in_ok-arrivals.ensures.new in
    let changes = rw c.in-Some-2.is at c.in_ok-changes.ensures.new in
    λ shares t.
    one_more_share net held.arrivals.items held.changes.items _ _ shares share
    (new_arrivals_written net held.arrivals c.deref_mut.result.now c.claim_arrivals.new.flags c.in-Some.arrivals.items share.arrivals c.deref_mut.ensures.value c.from_vec.ensures arrivals)
    (new_changes_written net held.changes c.deref_mut-2.result.now c.claim_changes.new.flags c.in-Some-2.changes.items share.changes c.deref_mut-2.ensures.value c.from_vec-2.ensures changes) t

use Rattle.std.proofs.Common.{inl, inr}
use Rattle.std.proofs.lemmas.Bool.Decides.{when_true}
use Rattle.std.proofs.lemmas.Result.{on_ok_weaker}
use Rattle.dm_team.proofs.Outcomes.{branch_chosen, first_below, second_below}
use Rattle.dm_team.proofs.Steps.{guide_says, seen_at, cycle_in, pruned_in, given_up_in, dear_in, open_in, branch_in, solved_in}
use Rattle.dm_team.proofs.working.Worker.expand.Goals as goal

pub branch-self-requires-clause-first : goal.branch-self-requires-clause-first
branch-self-requires-clause-first g c =
    let seen = seen_at _ _ _ _ _ _ _ _ _ _ _ c.as_slice-2.ensures (rw c.in-Branch.is at c.in_ok-seen.ensures.seen) in
    c.requires.picks.makes _ (first_below _ c.reveal.ensures.network _ _ _ _ _ c.requires.posed _ _ c.requires.node
    (branch_chosen _ c.reveal.ensures.network _ _ _ _ _ c.requires.posed _ _ _ _ _ c.requires.own seen.is c.if-team-cost-2.false
    (guide_says _ _ _ _ _ c.as_slice.ensures c.branching-hint.ensures (when_true _ _ c.if-is_hinted.true c.is_hinted.ensures))))

pub branch-self-requires-clause-second : goal.branch-self-requires-clause-second
branch-self-requires-clause-second g c =
    let seen = seen_at _ _ _ _ _ _ _ _ _ _ _ c.as_slice-2.ensures (rw c.in-Branch.is at c.in_ok-seen.ensures.seen) in
    c.requires.picks.makes _ (second_below _ c.reveal.ensures.network _ _ _ _ _ c.requires.posed _ _ c.requires.node
    (branch_chosen _ c.reveal.ensures.network _ _ _ _ _ c.requires.posed _ _ _ _ _ c.requires.own seen.is c.if-team-cost-2.false
    (guide_says _ _ _ _ _ c.as_slice.ensures c.branching-hint.ensures (when_true _ _ c.if-is_hinted.true c.is_hinted.ensures))))

pub returns-in-Cycle-clause-works : goal.returns-in-Cycle-clause-works
returns-in-Cycle-clause-works g c =
    let seen = seen_at _ _ _ _ _ _ _ _ _ _ _ c.as_slice-2.ensures (rw c.in-Cycle.is at c.in_ok-seen.ensures.seen) in
    on_ok_weaker _ (cycle_in _ c.reveal.ensures.network _ _ _ _ _ _ c.requires.posed _ c.requires.own _ _ _ _ _ c.requires.node _ seen) c.hand_in.ensures.handed

pub returns-in-Solved-clause-works : goal.returns-in-Solved-clause-works
returns-in-Solved-clause-works g c =
    let seen = seen_at _ _ _ _ _ _ _ _ _ _ _ c.as_slice-2.ensures (rw c.in-Solved.is at c.in_ok-seen.ensures.seen) in
    on_ok_weaker _ (solved_in _ c.reveal.ensures.network _ _ _ _ _ _ c.requires.posed _ c.requires.own _ _ _ _ _ c.requires.node _ _ _ _ seen c.keep.ensures) c.hand_in-in-Solved.ensures.handed

pub returns-then-is_hinted-clause-works : goal.returns-then-is_hinted-clause-works
returns-then-is_hinted-clause-works g c =
    let seen = seen_at _ _ _ _ _ _ _ _ _ _ _ c.as_slice-2.ensures (rw c.in-Branch.is at c.in_ok-seen.ensures.seen) in
    on_ok_weaker _ (branch_in _ c.reveal.ensures.network _ _ _ _ _ _ c.requires.posed _ c.requires.own _ _ _ _ _ c.requires.node _ _ _ seen c.if-team-cost-2.false
    (guide_says _ _ _ _ _ c.as_slice.ensures c.branching-hint.ensures (when_true _ _ c.if-is_hinted.true c.is_hinted.ensures))) c.branch-self.ensures.put

pub returns-else-is_hinted-clause-works : goal.returns-else-is_hinted-clause-works
returns-else-is_hinted-clause-works g c =
    let seen = seen_at _ _ _ _ _ _ _ _ _ _ _ c.as_slice-2.ensures (rw c.in-Branch.is at c.in_ok-seen.ensures.seen) in
    on_ok_weaker _ (open_in _ c.reveal.ensures.network _ _ _ _ _ _ c.requires.posed _ c.requires.own _ _ _ _ _ c.requires.node _ _ _ seen) c.hand_in-else-is_hinted.ensures.handed

pub returns-then-team-cost-2-clause-works : goal.returns-then-team-cost-2-clause-works
returns-then-team-cost-2-clause-works g c =
    let seen = seen_at _ _ _ _ _ _ _ _ _ _ _ c.as_slice-2.ensures (rw c.in-Branch.is at c.in_ok-seen.ensures.seen) in
    on_ok_weaker _ (dear_in _ c.reveal.ensures.network _ _ _ _ _ _ c.requires.posed _ c.requires.own _ _ _ _ _ c.requires.node _ _ _ seen c.if-team-cost-2.true) c.hand_in-then-team-cost-2.ensures.handed

pub returns-then-team-cost-clause-works : goal.returns-then-team-cost-clause-works
returns-then-team-cost-clause-works g c =
    let seen = seen_at _ _ _ _ _ _ _ _ _ _ _ c.as_slice-2.ensures (rw c.in-Pruned.is at c.in_ok-seen.ensures.seen) in
    on_ok_weaker _ (pruned_in _ c.reveal.ensures.network _ _ _ _ _ _ c.requires.posed _ c.requires.own _ _ _ _ _ c.requires.node _ _ seen (inr c.if-team-cost.true)) c.hand_in-then-team-cost.ensures.handed

pub returns-then-seen-lt18446744073709551615-clause-works : goal.returns-then-seen-lt18446744073709551615-clause-works
returns-then-seen-lt18446744073709551615-clause-works g c =
    let seen = seen_at _ _ _ _ _ _ _ _ _ _ _ c.as_slice-2.ensures (rw c.in-Pruned.is at c.in_ok-seen.ensures.seen) in
    on_ok_weaker _ (pruned_in _ c.reveal.ensures.network _ _ _ _ _ _ c.requires.posed _ c.requires.own _ _ _ _ _ c.requires.node _ _ seen (inl c.if-seen-lt18446744073709551615.true)) c.hand_in-then-seen-lt18446744073709551615.ensures.handed

pub returns-else-team-cost-clause-works : goal.returns-else-team-cost-clause-works
returns-else-team-cost-clause-works g c =
    let seen = seen_at _ _ _ _ _ _ _ _ _ _ _ c.as_slice-2.ensures (rw c.in-Pruned.is at c.in_ok-seen.ensures.seen) in
    on_ok_weaker _ (given_up_in _ c.reveal.ensures.network _ _ _ _ _ _ c.requires.posed _ c.requires.own _ _ _ _ _ c.requires.node _ _ seen) c.give_up.ensures.given_up

use Rattle.std.proofs.Common.{◌+◌, ◌<◌, ◌≤◌, ◌^◌, [], ◌∷◌, ◌++◌, length, ◌∙◌, ap, arith}
use Rattle.dm_store.specs.Blocks.{at_rest}
use Rattle.dm_store.specs.Calls.{written}
use Rattle.dm_store.proofs.Crash.{length-rest, with_block, length-with_block, written_behind, written_gate, length-one_more}
use Rattle.dm_store.proofs.Sequences.{settled_as, from_rest, to_rest, behind_leaves, gate_leaves}
use Rattle.dm_store.proofs.journal.Journal.commit.Goals as goal

pub returns-in_err-write_synced-clause-any_moment : goal.returns-in_err-write_synced-clause-any_moment
returns-in_err-write_synced-clause-any_moment g c = λ contents r.
    let small : length c.args.content.now < 2 ^ 64 = omega arith in
    let within : c.args.self.now.end + 1 ≤ length (at_rest contents) = omega (arith, length-rest contents c.args.content.now c.args.self.now.end r.gate small) in
    let settled = from_rest g.S.Store.tells g.S.Store.seen g.S.Store.shown g.S.Store.may_leave g.S.Store.moment g.S.Store.left_since contents c.args.self.now r in
    behind_leaves g.S.Store.tells g.S.Store.seen g.S.Store.shown g.S.Store.may_leave g.S.Store.moment g.S.Store.left_since contents c.args.content.now c.args.self.now.end r.gate small c.args.self.now.store _ _ _ _ (c.write_synced.ensures.written (at_rest contents) within settled)

pub returns-in_err-write_synced-2-clause-any_moment : goal.returns-in_err-write_synced-2-clause-any_moment
returns-in_err-write_synced-2-clause-any_moment g c = λ contents r.
    let small : length c.args.content.now < 2 ^ 64 = omega arith in
    let within : c.args.self.now.end + 1 ≤ length (at_rest contents) = omega (arith, length-rest contents c.args.content.now c.args.self.now.end r.gate small) in
    let settled = from_rest g.S.Store.tells g.S.Store.seen g.S.Store.shown g.S.Store.may_leave g.S.Store.moment g.S.Store.left_since contents c.args.self.now r in
    let first = c.in_ok-write_synced.ensures.written (at_rest contents) within settled in
    let bytes_are = c.deref.ensures.value ∙ c.in_ok-bytes.ensures in
    let gate_within : c.args.self.now.end ≤ length (with_block contents c.args.content.now c.args.self.now.end r.gate small) =
    omega (arith, length-with_block contents c.args.content.now c.args.self.now.end r.gate small) in
    let staged = settled_as g.S.Store.tells g.S.Store.seen g.S.Store.shown g.S.Store.may_leave g.S.Store.moment g.S.Store.left_since _ (with_block contents c.args.content.now c.args.self.now.end r.gate small) _
    (ap (written (at_rest contents) (c.args.self.now.end + 1)) bytes_are ∙ written_behind contents c.args.content.now c.args.self.now.end r.gate small) first.done in
    let second = c.write_synced-2.ensures.written _ gate_within staged in
    gate_leaves g.S.Store.tells g.S.Store.seen g.S.Store.shown g.S.Store.may_leave g.S.Store.moment g.S.Store.left_since contents c.args.content.now c.args.self.now.end r.gate small c.args.self.now.store _ _ _ _
    (behind_leaves g.S.Store.tells g.S.Store.seen g.S.Store.shown g.S.Store.may_leave g.S.Store.moment g.S.Store.left_since contents c.args.content.now c.args.self.now.end r.gate small c.args.self.now.store _ _ _ _ first) first.same second

pub returns-in_err-write_synced-2-clause-shown : goal.returns-in_err-write_synced-2-clause-shown
returns-in_err-write_synced-2-clause-shown g c = λ contents r.
    let small : length c.args.content.now < 2 ^ 64 = omega arith in
    let within : c.args.self.now.end + 1 ≤ length (at_rest contents) = omega (arith, length-rest contents c.args.content.now c.args.self.now.end r.gate small) in
    let settled = from_rest g.S.Store.tells g.S.Store.seen g.S.Store.shown g.S.Store.may_leave g.S.Store.moment g.S.Store.left_since contents c.args.self.now r in
    let first = c.in_ok-write_synced.ensures.written (at_rest contents) within settled in
    let bytes_are = c.deref.ensures.value ∙ c.in_ok-bytes.ensures in
    let gate_within : c.args.self.now.end ≤ length (with_block contents c.args.content.now c.args.self.now.end r.gate small) =
    omega (arith, length-with_block contents c.args.content.now c.args.self.now.end r.gate small) in
    let staged = settled_as g.S.Store.tells g.S.Store.seen g.S.Store.shown g.S.Store.may_leave g.S.Store.moment g.S.Store.left_since _ (with_block contents c.args.content.now c.args.self.now.end r.gate small) _
    (ap (written (at_rest contents) (c.args.self.now.end + 1)) bytes_are ∙ written_behind contents c.args.content.now c.args.self.now.end r.gate small) first.done in
    let second = c.write_synced-2.ensures.written _ gate_within staged in
    second.same ∙ first.same

pub returns-clause-any_moment : goal.returns-clause-any_moment
returns-clause-any_moment g c = λ contents r.
    let small : length c.args.content.now < 2 ^ 64 = omega arith in
    let within : c.args.self.now.end + 1 ≤ length (at_rest contents) = omega (arith, length-rest contents c.args.content.now c.args.self.now.end r.gate small) in
    let settled = from_rest g.S.Store.tells g.S.Store.seen g.S.Store.shown g.S.Store.may_leave g.S.Store.moment g.S.Store.left_since contents c.args.self.now r in
    let first = c.in_ok-write_synced.ensures.written (at_rest contents) within settled in
    let bytes_are = c.deref.ensures.value ∙ c.in_ok-bytes.ensures in
    let gate_within : c.args.self.now.end ≤ length (with_block contents c.args.content.now c.args.self.now.end r.gate small) =
    omega (arith, length-with_block contents c.args.content.now c.args.self.now.end r.gate small) in
    let staged = settled_as g.S.Store.tells g.S.Store.seen g.S.Store.shown g.S.Store.may_leave g.S.Store.moment g.S.Store.left_since _ (with_block contents c.args.content.now c.args.self.now.end r.gate small) _
    (ap (written (at_rest contents) (c.args.self.now.end + 1)) bytes_are ∙ written_behind contents c.args.content.now c.args.self.now.end r.gate small) first.done in
    let second = c.in_ok-write_synced-2.ensures.written _ gate_within staged in
    gate_leaves g.S.Store.tells g.S.Store.seen g.S.Store.shown g.S.Store.may_leave g.S.Store.moment g.S.Store.left_since contents c.args.content.now c.args.self.now.end r.gate small c.args.self.now.store _ _ _ _
    (behind_leaves g.S.Store.tells g.S.Store.seen g.S.Store.shown g.S.Store.may_leave g.S.Store.moment g.S.Store.left_since contents c.args.content.now c.args.self.now.end r.gate small c.args.self.now.store _ _ _ _ first) first.same second

pub returns-clause-shown : goal.returns-clause-shown
returns-clause-shown g c = λ contents r.
    let small : length c.args.content.now < 2 ^ 64 = omega arith in
    let within : c.args.self.now.end + 1 ≤ length (at_rest contents) = omega (arith, length-rest contents c.args.content.now c.args.self.now.end r.gate small) in
    let settled = from_rest g.S.Store.tells g.S.Store.seen g.S.Store.shown g.S.Store.may_leave g.S.Store.moment g.S.Store.left_since contents c.args.self.now r in
    let first = c.in_ok-write_synced.ensures.written (at_rest contents) within settled in
    let bytes_are = c.deref.ensures.value ∙ c.in_ok-bytes.ensures in
    let gate_within : c.args.self.now.end ≤ length (with_block contents c.args.content.now c.args.self.now.end r.gate small) =
    omega (arith, length-with_block contents c.args.content.now c.args.self.now.end r.gate small) in
    let staged = settled_as g.S.Store.tells g.S.Store.seen g.S.Store.shown g.S.Store.may_leave g.S.Store.moment g.S.Store.left_since _ (with_block contents c.args.content.now c.args.self.now.end r.gate small) _
    (ap (written (at_rest contents) (c.args.self.now.end + 1)) bytes_are ∙ written_behind contents c.args.content.now c.args.self.now.end r.gate small) first.done in
    let second = c.in_ok-write_synced-2.ensures.written _ gate_within staged in
    second.same ∙ first.same

pub returns-clause-acknowledged : goal.returns-clause-acknowledged
returns-clause-acknowledged g c = λ contents r.
    let small : length c.args.content.now < 2 ^ 64 = omega arith in
    let within : c.args.self.now.end + 1 ≤ length (at_rest contents) = omega (arith, length-rest contents c.args.content.now c.args.self.now.end r.gate small) in
    let settled = from_rest g.S.Store.tells g.S.Store.seen g.S.Store.shown g.S.Store.may_leave g.S.Store.moment g.S.Store.left_since contents c.args.self.now r in
    let first = c.in_ok-write_synced.ensures.written (at_rest contents) within settled in
    let bytes_are = c.deref.ensures.value ∙ c.in_ok-bytes.ensures in
    let gate_within : c.args.self.now.end ≤ length (with_block contents c.args.content.now c.args.self.now.end r.gate small) =
    omega (arith, length-with_block contents c.args.content.now c.args.self.now.end r.gate small) in
    let staged = settled_as g.S.Store.tells g.S.Store.seen g.S.Store.shown g.S.Store.may_leave g.S.Store.moment g.S.Store.left_since _ (with_block contents c.args.content.now c.args.self.now.end r.gate small) _
    (ap (written (at_rest contents) (c.args.self.now.end + 1)) bytes_are ∙ written_behind contents c.args.content.now c.args.self.now.end r.gate small) first.done in
    let second = c.in_ok-write_synced-2.ensures.written _ gate_within staged in
    to_rest g.S.Store.tells g.S.Store.seen g.S.Store.shown g.S.Store.may_leave g.S.Store.moment g.S.Store.left_since (contents ++ c.args.content.now ∷ []) _ _ (written_gate contents c.args.content.now c.args.self.now.end r.gate small)
    (omega (arith, ap length bytes_are, length-one_more contents c.args.content.now c.args.self.now.end r.gate small)) second.done

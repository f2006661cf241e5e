use Rattle.std.proofs.Common.{◌≤◌, length, take, ◌∙◌, ap, arith}
use Rattle.std.specs.List.{flat_map}
use Rattle.dm_store.specs.Blocks.{block}
use Rattle.dm_store.proofs.Crash.{blocks_fit, cut_done, written_end}
use Rattle.dm_store.proofs.Sequences.{settled_as, to_rest, cut_leaves, end_leaves, judged_err}
use Rattle.dm_store.proofs.journal.Journal.recover.Goals as goal

pub returns-in_err-bytes-clause-any_moment : goal.returns-in_err-bytes-clause-any_moment
returns-in_err-bytes-clause-any_moment g c = λ contents found.
    (c.read_judged.ensures.read contents found).leaves

pub returns-in_err-bytes-clause-shown : goal.returns-in_err-bytes-clause-shown
returns-in_err-bytes-clause-shown g c = λ contents found.
    (c.read_judged.ensures.read contents found).same

pub returns-in_err-bytes-clause-judged : goal.returns-in_err-bytes-clause-judged
returns-in_err-bytes-clause-judged g c = λ contents found.
    judged_err contents found.stands.end _ c.from_residual.result c.from_residual.ensures.1 (c.in_err-bytes.ensures.read contents found).judged

pub returns-in_err-bytes-clause-untouched : goal.returns-in_err-bytes-clause-untouched
returns-in_err-bytes-clause-untouched g c = λ contents found.
    λ refused. record { same = (c.read_judged.ensures.read contents found).settled.reads; none = (c.read_judged.ensures.read contents found).none }

pub returns-in_err-bytes-clause-unread_left : goal.returns-in_err-bytes-clause-unread_left
returns-in_err-bytes-clause-unread_left g c = λ contents found is.
    record { same = (c.read_judged.ensures.read contents found).settled.reads; none = (c.read_judged.ensures.read contents found).none }

pub returns-in_err-cut_synced-clause-any_moment : goal.returns-in_err-cut_synced-clause-any_moment
returns-in_err-cut_synced-clause-any_moment g c = λ contents found.
    let read = c.in_ok-bytes.ensures.read contents found in
    let there = read.judged.1 in
    let within = blocks_fit contents (g.S.Store.seen c.args.self.now.store) found.stands.end found.stands.split found.stands.is_end c.in_ok-bytes.end there in
    let cut = c.cut_synced.ensures.cut (g.S.Store.seen c.args.self.now.store) within read.settled in
    cut_leaves g.S.Store.tells g.S.Store.seen g.S.Store.shown g.S.Store.may_leave g.S.Store.moment g.S.Store.left_since contents (g.S.Store.seen c.args.self.now.store) found.stands.end found.stands.split found.stands.is_end c.in_ok-bytes.end there c.args.self.now.store _ _ _ _ read.leaves read.same cut

pub returns-in_err-cut_synced-clause-shown : goal.returns-in_err-cut_synced-clause-shown
returns-in_err-cut_synced-clause-shown g c = λ contents found.
    let read = c.in_ok-bytes.ensures.read contents found in
    let there = read.judged.1 in
    let within = blocks_fit contents (g.S.Store.seen c.args.self.now.store) found.stands.end found.stands.split found.stands.is_end c.in_ok-bytes.end there in
    let cut = c.cut_synced.ensures.cut (g.S.Store.seen c.args.self.now.store) within read.settled in
    cut.same ∙ read.same

pub returns-in_err-write_synced-clause-any_moment : goal.returns-in_err-write_synced-clause-any_moment
returns-in_err-write_synced-clause-any_moment g c = λ contents found.
    let read = c.in_ok-bytes.ensures.read contents found in
    let there = read.judged.1 in
    let within = blocks_fit contents (g.S.Store.seen c.args.self.now.store) found.stands.end found.stands.split found.stands.is_end c.in_ok-bytes.end there in
    let cut = c.in_ok-cut_synced.ensures.cut (g.S.Store.seen c.args.self.now.store) within read.settled in
    let blocks = settled_as g.S.Store.tells g.S.Store.seen g.S.Store.shown g.S.Store.may_leave g.S.Store.moment g.S.Store.left_since _ (flat_map block contents) _ (cut_done contents (g.S.Store.seen c.args.self.now.store) found.stands.end found.stands.split found.stands.is_end c.in_ok-bytes.end there) cut.done in
    let end_within : c.in_ok-bytes.end ≤ length (flat_map block contents) = omega (arith, there) in
    let shut = c.write_synced.ensures.written (flat_map block contents) end_within blocks in
    end_leaves g.S.Store.tells g.S.Store.seen g.S.Store.shown g.S.Store.may_leave g.S.Store.moment g.S.Store.left_since contents (g.S.Store.seen c.args.self.now.store) found.stands.end found.stands.split found.stands.is_end c.in_ok-bytes.end there c.args.self.now.store _ _ _ _ (cut_leaves g.S.Store.tells g.S.Store.seen g.S.Store.shown g.S.Store.may_leave g.S.Store.moment g.S.Store.left_since contents (g.S.Store.seen c.args.self.now.store) found.stands.end found.stands.split found.stands.is_end c.in_ok-bytes.end there c.args.self.now.store _ _ _ _ read.leaves read.same cut) (cut.same ∙ read.same) shut

pub returns-in_err-write_synced-clause-shown : goal.returns-in_err-write_synced-clause-shown
returns-in_err-write_synced-clause-shown g c = λ contents found.
    let read = c.in_ok-bytes.ensures.read contents found in
    let there = read.judged.1 in
    let within = blocks_fit contents (g.S.Store.seen c.args.self.now.store) found.stands.end found.stands.split found.stands.is_end c.in_ok-bytes.end there in
    let cut = c.in_ok-cut_synced.ensures.cut (g.S.Store.seen c.args.self.now.store) within read.settled in
    let blocks = settled_as g.S.Store.tells g.S.Store.seen g.S.Store.shown g.S.Store.may_leave g.S.Store.moment g.S.Store.left_since _ (flat_map block contents) _ (cut_done contents (g.S.Store.seen c.args.self.now.store) found.stands.end found.stands.split found.stands.is_end c.in_ok-bytes.end there) cut.done in
    let end_within : c.in_ok-bytes.end ≤ length (flat_map block contents) = omega (arith, there) in
    let shut = c.write_synced.ensures.written (flat_map block contents) end_within blocks in
    shut.same ∙ (cut.same ∙ read.same)

pub returns-clause-any_moment : goal.returns-clause-any_moment
returns-clause-any_moment g c = λ contents found.
    let read = c.in_ok-bytes.ensures.read contents found in
    let there = read.judged.1 in
    let within = blocks_fit contents (g.S.Store.seen c.args.self.now.store) found.stands.end found.stands.split found.stands.is_end c.in_ok-bytes.end there in
    let cut = c.in_ok-cut_synced.ensures.cut (g.S.Store.seen c.args.self.now.store) within read.settled in
    let blocks = settled_as g.S.Store.tells g.S.Store.seen g.S.Store.shown g.S.Store.may_leave g.S.Store.moment g.S.Store.left_since _ (flat_map block contents) _ (cut_done contents (g.S.Store.seen c.args.self.now.store) found.stands.end found.stands.split found.stands.is_end c.in_ok-bytes.end there) cut.done in
    let end_within : c.in_ok-bytes.end ≤ length (flat_map block contents) = omega (arith, there) in
    let shut = c.in_ok-write_synced.ensures.written (flat_map block contents) end_within blocks in
    end_leaves g.S.Store.tells g.S.Store.seen g.S.Store.shown g.S.Store.may_leave g.S.Store.moment g.S.Store.left_since contents (g.S.Store.seen c.args.self.now.store) found.stands.end found.stands.split found.stands.is_end c.in_ok-bytes.end there c.args.self.now.store _ _ _ _ (cut_leaves g.S.Store.tells g.S.Store.seen g.S.Store.shown g.S.Store.may_leave g.S.Store.moment g.S.Store.left_since contents (g.S.Store.seen c.args.self.now.store) found.stands.end found.stands.split found.stands.is_end c.in_ok-bytes.end there c.args.self.now.store _ _ _ _ read.leaves read.same cut) (cut.same ∙ read.same) shut

pub returns-clause-shown : goal.returns-clause-shown
returns-clause-shown g c = λ contents found.
    let read = c.in_ok-bytes.ensures.read contents found in
    let there = read.judged.1 in
    let within = blocks_fit contents (g.S.Store.seen c.args.self.now.store) found.stands.end found.stands.split found.stands.is_end c.in_ok-bytes.end there in
    let cut = c.in_ok-cut_synced.ensures.cut (g.S.Store.seen c.args.self.now.store) within read.settled in
    let blocks = settled_as g.S.Store.tells g.S.Store.seen g.S.Store.shown g.S.Store.may_leave g.S.Store.moment g.S.Store.left_since _ (flat_map block contents) _ (cut_done contents (g.S.Store.seen c.args.self.now.store) found.stands.end found.stands.split found.stands.is_end c.in_ok-bytes.end there) cut.done in
    let end_within : c.in_ok-bytes.end ≤ length (flat_map block contents) = omega (arith, there) in
    let shut = c.in_ok-write_synced.ensures.written (flat_map block contents) end_within blocks in
    shut.same ∙ (cut.same ∙ read.same)

pub returns-clause-at_rest : goal.returns-clause-at_rest
returns-clause-at_rest g c = λ contents found.
    let read = c.in_ok-bytes.ensures.read contents found in
    let there = read.judged.1 in
    let within = blocks_fit contents (g.S.Store.seen c.args.self.now.store) found.stands.end found.stands.split found.stands.is_end c.in_ok-bytes.end there in
    let cut = c.in_ok-cut_synced.ensures.cut (g.S.Store.seen c.args.self.now.store) within read.settled in
    let blocks = settled_as g.S.Store.tells g.S.Store.seen g.S.Store.shown g.S.Store.may_leave g.S.Store.moment g.S.Store.left_since _ (flat_map block contents) _ (cut_done contents (g.S.Store.seen c.args.self.now.store) found.stands.end found.stands.split found.stands.is_end c.in_ok-bytes.end there) cut.done in
    let end_within : c.in_ok-bytes.end ≤ length (flat_map block contents) = omega (arith, there) in
    let shut = c.in_ok-write_synced.ensures.written (flat_map block contents) end_within blocks in
    to_rest g.S.Store.tells g.S.Store.seen g.S.Store.shown g.S.Store.may_leave g.S.Store.moment g.S.Store.left_since contents _ _ (written_end contents (g.S.Store.seen c.args.self.now.store) found.stands.end found.stands.split found.stands.is_end c.in_ok-bytes.end there) there shut.done

pub returns-clause-blocks : goal.returns-clause-blocks
returns-clause-blocks g c = λ contents found.
    let read = c.in_ok-bytes.ensures.read contents found in
    let there = read.judged.1 in
    let within = blocks_fit contents (g.S.Store.seen c.args.self.now.store) found.stands.end found.stands.split found.stands.is_end c.in_ok-bytes.end there in
    c.truncate.ensures.items ∙ ap (take c.in_ok-bytes.end) read.judged.0 ∙ cut_done contents (g.S.Store.seen c.args.self.now.store) found.stands.end found.stands.split found.stands.is_end c.in_ok-bytes.end there

use Rattle.dm_network.proofs.EventRows.{into_below, row_below}
use Rattle.dm_evaluate.proofs.Marked.{marks_moved}
use Rattle.dm_evaluate.proofs.marks.ViolationMarksWatcher.moves.Goals as goal

pub mark_early-requires-clause-are_activities : goal.mark_early-requires-clause-are_activities
mark_early-requires-clause-are_activities c = into_below c.args.net.now c.args.to.now.event c.args.to.now.into.now c.requires.is_move.into

pub mark_early-requires-2-clause-are_activities : goal.mark_early-requires-2-clause-are_activities
mark_early-requires-2-clause-are_activities c = row_below c.args.net.now c.args.to.now.event c.args.to.now.out_of.now c.requires.is_move.out_of

pub mark_unmet-requires-clause-into_activities : goal.mark_unmet-requires-clause-into_activities
mark_unmet-requires-clause-into_activities c = into_below c.args.net.now c.args.to.now.event c.args.to.now.into.now c.requires.is_move.into

pub mark_unmet-requires-clause-out_activities : goal.mark_unmet-requires-clause-out_activities
mark_unmet-requires-clause-out_activities c = row_below c.args.net.now c.args.to.now.event c.args.to.now.out_of.now c.requires.is_move.out_of

pub returns-clause-knows : goal.returns-clause-knows
returns-clause-knows c =
    marks_moved c.args.net.now c.reveal.ensures.network c.args.to.now.constraints.now.spans c.args.to.now.times.now c.args.to.now.event c.args.to.now.time
    c.args.to.now.into.now c.args.to.now.out_of.now c.requires.is_move.into c.requires.is_move.out_of c.args.self.now.changes c.args.self.now.pairs
    c.mark_early.new.changes c.mark_early-2.new.changes c.mark_unmet.new.pairs c.requires.knows
    c.mark_early.ensures c.mark_early-2.ensures c.mark_unmet.ensures

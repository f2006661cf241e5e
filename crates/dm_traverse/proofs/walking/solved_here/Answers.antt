use Rattle.std.proofs.Common.{refl, sym, subst, ◌∙◌}
use Rattle.dm_tree.specs.Relaxed.{HasNoRelaxedCycle}
use Rattle.dm_traverse.proofs.Walks.{path_list, no_cycle_over, relaxed_over}
use Rattle.dm_traverse.proofs.walking.solved_here.Goals as goal

pub outcome_of-requires-clause-list : goal.outcome_of-requires-clause-list
outcome_of-requires-clause-list c = rw c.path.ensures (path_list _ _ c.requires.evaluator)

pub outcome_of-requires-clause-relaxed : goal.outcome_of-requires-clause-relaxed
outcome_of-requires-clause-relaxed c =
    rw c.path.ensures (relaxed_over _ c.reveal.ensures.network _ c.requires.evaluator _ _
    (c.copy_from.ensures ∙ c.times.ensures) refl c.requires.cost c.requires.nothing)

pub outcome_of-requires-clause-no_cycle : goal.outcome_of-requires-clause-no_cycle
outcome_of-requires-clause-no_cycle c =
    subst (HasNoRelaxedCycle c.args.task.now.net.now c.args.task.now.rows.now) (sym c.path.ensures)
    (no_cycle_over _ c.reveal.ensures.network _ c.requires.evaluator)

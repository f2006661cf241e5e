use Rattle.std.proofs.Common.{List, ◌++◌, ◌∷◌, [], ap, refl, ◌∙◌}
use Rattle.dm_task.specs.Tasks.{task_of}
use Rattle.dm_traverse.proofs.Beside.{beside_is_task}
use Rattle.dm_parts.specs.declared.parts.Part.{Part}
use Rattle.dm_part_plans.proofs.OnePart.{one_part_is_true}
use Rattle.dm_part_plans.proofs.solving.with_one_part.Goals as goal

pub returns-clause-parts : goal.returns-clause-parts
returns-clause-parts c =
    let t = c.args.task.now in
    let part = c.in_ok-part.part in
    let alone = c.from_vec.ensures ∙ (c.in_ok-push.ensures.items ∙ ap (λ (ps : List Part). ps ++ part ∷ []) c.new-parts.ensures.items) in
    one_part_is_true (task_of t) (beside_is_task t.net.now t.rows.now t.penalty t.base.now t.budget c.reveal.ensures.network c.requires.posed)
    c.args.plan.now c.requires.plan c.args.chosen.choices c.args.chosen.cost c.requires.chosen part c.in_ok-part.ensures.share c.in_ok-part.ensures.tree
    c.in_ok-part.ensures.bound _ refl refl alone refl refl c.mark_of.ensures

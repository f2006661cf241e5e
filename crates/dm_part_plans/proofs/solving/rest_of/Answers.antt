use Rattle.std.proofs.Common.{refl}
use Rattle.dm_task.specs.Tasks.{task_of}
use Rattle.dm_parts.specs.Parts.{shares_of}
use Rattle.dm_part_plans.proofs.Together.{no_more_inside, rest_is}
use Rattle.dm_part_plans.proofs.solving.rest_of.Goals as goal

pub overflow_sub-result : goal.overflow_sub-result
overflow_sub-result c =
    let inside = rw c.deref.ensures.value at c.cost_of_shares-inside.ensures.cost in
    no_more_inside (task_of c.args.task.now) (shares_of c.args.gathered.now.parts.items) c.requires.gathered.taken.apart c.walk.new.evaluator
    c.cost-all.result c.cost_of_shares-inside.result c.cost-all.ensures.cost inside

pub returns-clause-rest : goal.returns-clause-rest
returns-clause-rest c =
    let inside = rw c.deref.ensures.value at c.cost_of_shares-inside.ensures.cost in
    rest_is (task_of c.args.task.now) c.reveal.ensures.network (shares_of c.args.gathered.now.parts.items) c.requires.gathered.taken.apart
    c.walk.new.evaluator c.walk.ensures.evaluator.is c.walk.ensures.evaluator.same c.in-Ok.ensures.there
    c.cost-all.result c.cost_of_shares-inside.result _ c.cost-all.ensures.cost inside refl

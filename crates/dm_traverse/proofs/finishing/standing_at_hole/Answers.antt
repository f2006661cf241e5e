use Rattle.std.proofs.Common.{List, [], sym, subst}
use Rattle.dm_tree.specs.declared.forms.Leaf.{Leaf}
use Rattle.dm_tree.specs.declared.forms.Node.{Node}
use Rattle.dm_tree.specs.Trees.{Assembles}
use Rattle.dm_task.specs.Tasks.{task_of}
use Rattle.dm_traverse.specs.Finish.{IsStart}
use Rattle.dm_traverse.proofs.Started.{hole_is_start, hole_alone, stands_at_start}
use Rattle.dm_traverse.proofs.finishing.standing_at_hole.Goals as goal

pub returns : goal.returns
returns c =
    let task = task_of c.args.task.now in
    let tree = subst (λ (leaves : List Leaf). Assembles leaves c.in-Ok.unsearched) c.new.ensures.items c.in-Ok.ensures.tree in
    let start = hole_is_start task c.reveal.ensures.network c.requires.no_cycle c.requires.some in
    let begun = subst (λ (nodes : List Node). IsStart task nodes []) (sym (hole_alone c.in-Ok.unsearched tree)) start in
    rw (c.in_ok-nodes.ensures.items, c.as_slice.ensures.nodes, c.from_vec-choices.ensures, c.new-nothing.ensures.items)
    (stands_at_start task c.reveal.ensures.network c.in-Ok.unsearched [] c.args.own begun c.requires.own)

use Rattle.std.proofs.Common.{subst}
use Rattle.std.specs.Prelude.{List}
use Rattle.std.proofs.lemmas.Bool.Decides.{when_false}
use Rattle.dm_tree.specs.declared.forms.Leaf.{Leaf}
use Rattle.dm_tree.specs.Inside.Assembling.{IsFinished}
use Rattle.dm_tree.proofs.Growing.{finished_is_least}
use Rattle.dm_tree.proofs.assembly.assemble.Goals as goal

pub returns-in-Ok-false-clause-tree : goal.returns-in-Ok-false-clause-tree
returns-in-Ok-false-clause-tree c =
    let f : IsFinished c.deref-in-loop.result.now c.grow.new.self.nodes.items =
    when_false _ _ c.in-Ok-false.field-0-test c.in-Ok-false.ensures.ok in
    rw c.new-in-Ok-false.ensures
    (finished_is_least _ _
    (subst (λ (ls : List Leaf). IsFinished ls c.grow.new.self.nodes.items) c.deref-in-loop.ensures.value f))

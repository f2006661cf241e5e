use Rattle.std.proofs.Common.{List, subst}
use Rattle.dm_tree.specs.declared.forms.Leaf.{Leaf}
use Rattle.dm_tree.specs.Trees.{Assembles}
use Rattle.dm_traverse.proofs.Started.{a_hole_is_a_start}
use Rattle.dm_team.proofs.searching.one_hole.Goals as goal

pub returns-clause-hole : goal.returns-clause-hole
returns-clause-hole c = a_hole_is_a_start.hole _ (subst (λ (leaves : List Leaf). Assembles leaves c.in-Ok.hole) c.new.ensures.items c.in-Ok.ensures.tree)

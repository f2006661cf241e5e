use Rattle.std.specs.Prelude.{map, reverse}
use Rattle.dm_tree.specs.Inside.Assembling.{IsDraft}
use Rattle.dm_tree.proofs.assembly.assemble.Given as goal

abbrev pub invariant-loop : goal.invariant-loop
invariant-loop l = IsDraft l.leaves.items l.draft.nodes.items l.draft.path.items (reverse (map (λ g. g.items) l.draft.groups.items))

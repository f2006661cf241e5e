use Rattle.std.proofs.Common.{◌≡◌, false, true}
use Rattle.dm_tree.specs.Inside.Filling.{fills}
use Rattle.dm_tree.proofs.Filled.{whole_tree, tree_fills}
use Rattle.dm_tree.proofs.whole.Tree.from_nodes.Goals as goal

pub returns-then-not-fills_one_place-clause-not_a_tree :
    goal.returns-then-not-fills_one_place-clause-not_a_tree
returns-then-not-fills_one_place-clause-not_a_tree c =
    λ _ t. let e : fills false 0 c.args.nodes.items ≡ true = tree_fills _ t in cc

pub returns-clause-whole : goal.returns-clause-whole
returns-clause-whole c = let e : fills false 0 c.args.nodes.items ≡ true = cc in whole_tree _ e

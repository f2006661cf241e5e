use Rattle.std.proofs.Common.{Bool, List, [], ◌∷◌, map, refl, sym, subst}
use Rattle.std.specs.Prelude.{IfOk}
use Rattle.std.proofs.lemmas.Result.{IfOk-weaker}
use Rattle.dm_tree.specs.declared.forms.Node.{Node}
use Rattle.dm_tree.specs.Trees.{IsTree}
use Rattle.dm_tree.proofs.Filled.{tree_fills}
use Rattle.dm_parts.specs.Parts.{as_node}
use Rattle.dm_check_rows.specs.Claims.{Tells}
use Rattle.dm_check_plans.specs.Visiting.{HoldsOfAll, IsLeastCarried}
use Rattle.dm_check_parts.specs.Inside.Grounds.{task_of}
use Rattle.dm_check_parts.specs.Inside.Nodes.{IsTreeOf, IsTruePartNode}
use Rattle.dm_check_parts.proofs.Wholes.{its_tree, its_least, part_told}
use Rattle.dm_check_parts.proofs.grounds.Grounds.is_true_part.Goals as goal

pub returns-then-not-is_share-clause-tells : goal.returns-then-not-is_share-clause-tells
returns-then-not-is_share-clause-tells c = λ t. c.if-not-is_share.ensures t.share

pub returns-in-Ok-None-clause-tells : goal.returns-in-Ok-None-clause-tells
returns-in-Ok-None-clause-tells c = λ t.
    let part = c.args.part.now in
    (subst (IsTreeOf part) c.in-Ok-None.field-0-is c.in-Ok-None.ensures) (its_tree (task_of c.args.self.now) part (map as_node part.tree) refl t)

pub are_all_true-requires-clause-whole : goal.are_all_true-requires-clause-whole
are_all_true-requires-clause-whole c = tree_fills c.as_slice-2.result.now (subst IsTree (sym c.as_slice-2.ensures.nodes) c.as_slice-2.ensures.whole)

pub returns-then-not-is_least-clause-tells : goal.returns-then-not-is_least-clause-tells
returns-then-not-is_least-clause-tells c = λ t.
    let part = c.args.part.now in
    c.if-not-is_least.ensures
    (subst (λ (ns : List Node). IsLeastCarried ns part.bound) (sym c.as_slice.ensures.nodes) (its_least (task_of c.args.self.now) part c.in-Ok-Some.tree (subst (IsTreeOf part) c.in-Ok-Some.field-0-is c.in-Ok-Some.ensures).0 t))

pub returns-clause-tells : goal.returns-clause-tells
returns-clause-tells c =
    let part = c.args.part.now in
    let task = task_of c.args.self.now in
    let tree : List Node = c.in-Ok-Some.tree in
    let is = subst (IsTreeOf part) c.in-Ok-Some.field-0-is c.in-Ok-Some.ensures in
    let least = subst (λ (ns : List Node). IsLeastCarried ns part.bound) c.as_slice.ensures.nodes c.if-not-is_least.ensures in
    let nodes = subst (λ (ns : List Node). IfOk c.are_all_true.result (Tells (HoldsOfAll (IsTruePartNode task part.share) ([] ∷ []) ns))) c.as_slice-2.ensures.nodes c.are_all_true.ensures.tells in
    IfOk-weaker _ _ _ (λ (b : Bool) all. part_told task part tree is.0 is.1 c.if-not-is_share.ensures least b all) nodes

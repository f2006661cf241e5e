use Rattle.std.proofs.Common.{◌≡◌, ◌++◌, [], List, reverse, subst, ◌∙◌, arith}
use Rattle.dm_tree.specs.declared.forms.Node.{Node}
use Rattle.dm_tree.specs.Plans.{Task}
use Rattle.dm_traverse.specs.Inside.Searching.{AreBest, IsSearched}
use Rattle.dm_traverse.proofs.Kept.{kept_at_end, kept_past, none_popped}
use Rattle.dm_traverse.proofs.searching.Walker.search_all.Goals as goal

pub loop-node-preserved : goal.loop-node-preserved
loop-node-preserved c =
    let same = c.loop-node.invariant.same in
    let less = c.loop-node.invariant.no_dearer in
    let now = c.in_ok-now.ensures.advanced in
    let lower = now.no_dearer in
    record {
      best = subst (λ (t : Task). AreBest t c.in_ok-now.now.choices c.in_ok-now.now.cost) same now.are_best;
      search = subst (λ (t : Task). IsSearched t c.args.limit c.in_ok-now.now.cost c.advance.new.search.nodes.items
          (reverse c.advance.new.search.due.items) c.advance.new.search.path.items) same now.searched;
      same = c.advance.ensures.same ∙ same;
      no_dearer = omega (arith, less, lower);
      kept = kept_past _ _ _ _ _ _ c.in-Some.ensures.items c.loop-node.invariant.kept c.in_ok-now.ensures.kept;
    }

pub returns-clause-kept : goal.returns-clause-kept
returns-clause-kept c =
    let due : List Node = c.loop-node.search.due.items in
    let none : due ≡ [] = none_popped due _ _ c.in_default.ensures.cases.0 c.in_default.ensures.items c.in_default.ensures.rest in
    kept_at_end (c.args.search.now.nodes.items ++ reverse c.args.search.now.due.items) c.loop-node.search.nodes.items due none c.loop-node.invariant.kept

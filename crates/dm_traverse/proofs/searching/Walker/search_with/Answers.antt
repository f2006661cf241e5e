use Rattle.std.proofs.Common.{subst, ◌∙◌}
use Rattle.std.specs.Prelude.{IfOk}
use Rattle.dm_tree.specs.Plans.{Task}
use Rattle.dm_traverse.specs.Inside.Searching.{AreUsedUp}
use Rattle.std.proofs.lemmas.Result.{IfOk-weaker}
use Rattle.dm_traverse.specs.declared.searching.Standing.{Standing}
use Rattle.dm_traverse.proofs.Kept.{keeps_on}
use Rattle.dm_traverse.proofs.searching.Walker.search_with.Goals as goal

pub returns-clause-used : goal.returns-clause-used
returns-clause-used c =
    subst (λ (t : Task). IfOk c.last_traversal.result (λ s. AreUsedUp t.budget s.best.cost s.nodes.items))
    (c.traverse_all.ensures.same ∙ (c.traverse.ensures.same ∙ c.improve.ensures.same)) c.last_traversal.ensures.used

pub returns-clause-kept : goal.returns-clause-kept
returns-clause-kept c =
    IfOk-weaker _ _ _
    (λ (s : Standing) kept.
    keeps_on _ _ s.nodes.items c.in_ok-improved.ensures.kept
    (keeps_on _ _ s.nodes.items c.in_ok-guided.ensures.kept (keeps_on _ _ s.nodes.items c.in_ok-spread.ensures.kept kept)))
    c.last_traversal.ensures.kept

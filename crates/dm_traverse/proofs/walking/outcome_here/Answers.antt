use Rattle.std.proofs.Common.{refl, sym}
use Rattle.std.proofs.lemmas.Result.{IfOk-weaker}
use Rattle.dm_traverse.proofs.Fronts.{over_same}
use Rattle.dm_traverse.proofs.Walks.{pruned_there, branch_there, first_there, found_along, outcome_along, hinted_there, none_by_hint}
use Rattle.dm_traverse.proofs.walking.outcome_here.Goals as goal

pub returns-then-best-cost-clause-outcome : goal.returns-then-best-cost-clause-outcome
returns-then-best-cost-clause-outcome c =
    pruned_there _ c.reveal.ensures.network _ c.requires.evaluator.is _ _ c.requires.evaluator.same
    refl _ _ _ c.cost-cost.ensures.cost c.if-best-cost.true

pub returns-then-best-cost-clause-first : goal.returns-then-best-cost-clause-first
returns-then-best-cost-clause-first c unhinted =
    pruned_there _ c.reveal.ensures.network _ c.requires.evaluator.is _ _ c.requires.evaluator.same
    refl _ _ _ c.cost-cost.ensures.cost c.if-best-cost.true

pub returns-in-Some-clause-outcome : goal.returns-in-Some-clause-outcome
returns-in-Some-clause-outcome c =
    branch_there _ c.reveal.ensures.network _ c.requires.evaluator.is _ _ c.requires.evaluator.same
    refl _ _ _ c.cost-cost.ensures.cost _ c.if-best-cost.false c.in-Some.ensures.violated

pub returns-in-Some-clause-first : goal.returns-in-Some-clause-first
returns-in-Some-clause-first c unhinted =
    first_there _ c.reveal.ensures.network _ c.requires.evaluator.is _ _ c.requires.evaluator.same
    refl _ _ _ c.cost-cost.ensures.cost _ c.if-best-cost.false (sym (c.in-Some.ensures.first unhinted))

pub returns-in-Some-clause-hinted : goal.returns-in-Some-clause-hinted
returns-in-Some-clause-hinted c =
    hinted_there _ c.reveal.ensures.network _ c.requires.evaluator.is _ _ c.requires.evaluator.same
    refl _ _ c.in-Some.ensures.chosen

pub returns-in-Some-clause-evaluator : goal.returns-in-Some-clause-evaluator
returns-in-Some-clause-evaluator c =
    over_same _ _ _ c.requires.evaluator c.violated_there.ensures.evaluator c.violated_there.ensures.rows c.violated_there.ensures.path

pub solved_here-requires-clause-evaluator : goal.solved_here-requires-clause-evaluator
solved_here-requires-clause-evaluator c =
    over_same _ _ _ c.requires.evaluator c.violated_there.ensures.evaluator c.violated_there.ensures.rows c.violated_there.ensures.path

pub solved_here-requires-clause-cost : goal.solved_here-requires-clause-cost
solved_here-requires-clause-cost c =
    rw (c.violated_there.ensures.rows, c.violated_there.ensures.path, c.violated_there.ensures.times) c.cost-cost.ensures.cost

pub solved_here-requires-clause-nothing : goal.solved_here-requires-clause-nothing
solved_here-requires-clause-nothing c =
    rw (c.violated_there.ensures.rows, c.violated_there.ensures.path, c.violated_there.ensures.times) (c.in-None.ensures.nothing refl)

pub returns-in-None-clause-outcome : goal.returns-in-None-clause-outcome
returns-in-None-clause-outcome c =
    IfOk-weaker _ _ _ (λ o h. found_along _ _ _ _ _ _ o c.violated_there.ensures.path h) c.solved_here.ensures

pub returns-in-None-clause-first : goal.returns-in-None-clause-first
returns-in-None-clause-first c unhinted =
    IfOk-weaker _ _ _ (λ o h. outcome_along _ _ _ _ _ _ o c.violated_there.ensures.path h) c.solved_here.ensures

pub returns-in-None-clause-hinted : goal.returns-in-None-clause-hinted
returns-in-None-clause-hinted c =
    IfOk-weaker _ _ _ (λ o h. none_by_hint _ c.reveal.ensures.network _ c.requires.evaluator.is _ _ c.requires.evaluator.same
    refl _ _ _ o (c.in-None.ensures.nothing refl) (outcome_along _ _ _ _ _ _ o c.violated_there.ensures.path h)) c.solved_here.ensures

pub returns-in-None-clause-evaluator : goal.returns-in-None-clause-evaluator
returns-in-None-clause-evaluator c =
    over_same _ _ _ c.requires.evaluator c.violated_there.ensures.evaluator c.violated_there.ensures.rows c.violated_there.ensures.path

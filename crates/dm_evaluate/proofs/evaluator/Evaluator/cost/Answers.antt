use Rattle.std.proofs.Common.{◌≡◌, sym, subst, ◌∙◌}
use Rattle.dm_evaluate.specs.Evaluator.{EvaluatorValue, IsEvaluatorOf, times_of}
use Rattle.dm_tree.specs.Relaxed.{relaxed_cost_of}
use Rattle.dm_evaluate.proofs.Relaxing.{relaxed_cost}
use Rattle.dm_evaluate.proofs.evaluator.Evaluator.cost.Goals as goal

pub returns-clause-cost : goal.returns-clause-cost
returns-clause-cost c =
    let net = c.args.net.now in
    let is = subst (IsEvaluatorOf net) (sym c.self.view_is) c.requires.evaluator in
    subst (λ (e : EvaluatorValue). c.cost.result ≡ relaxed_cost_of net e.rows e.path (times_of e) c.args.penalty) c.self.view_is
    (c.cost.ensures.cost net is.evaluates.is_priced
    ∙ relaxed_cost net c.self.inside.rows c.self.inside.path.items c.self.inside.priced is.evaluates c.reveal.ensures.network.formed.ends_are_known c.args.penalty)

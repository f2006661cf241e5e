use Rattle.std.proofs.Common.{List, ℕ, sym, subst}
use Rattle.std.specs.Prelude.{IsTrue, ◌↔◌}
use Rattle.dm_tree.specs.Relaxed.{IsViolated}
use Rattle.dm_evaluate.specs.Evaluator.{EvaluatorValue, IsEvaluatorOf, times_of}
use Rattle.dm_evaluate.proofs.evaluator.Evaluator.is_violated.Goals as goal

pub returns : goal.returns
returns g c =
    let net = c.args.net.now in
    let was = subst (IsEvaluatorOf net) (sym c.self.view_is) c.requires in
    subst (λ (e : EvaluatorValue). IsTrue c.is_violated.result ↔ IsViolated net e.rows e.path (times_of c.args.self.now) c.args.choice) c.self.view_is
    (subst (λ (x : List ℕ). IsTrue c.is_violated.result ↔ IsViolated net c.self.inside.rows c.self.inside.path.items x c.args.choice) c.times.ensures
    (c.is_violated.ensures c.self.inside.path.items (record { changes = was.changes; pairs = was.pairs })))

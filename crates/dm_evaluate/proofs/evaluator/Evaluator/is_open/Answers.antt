use Rattle.std.proofs.Common.{◌≡◌, sym, subst, ◌∙◌}
use Rattle.dm_rows.specs.Relax.{is_undecided_change, is_undecided_pair}
use Rattle.dm_evaluate.specs.Evaluator.{EvaluatorValue, IsEvaluatorOf}
use Rattle.dm_paths.specs.Decisions.{IsOpen}
use Rattle.dm_paths.specs.Places.{at_place}
use Rattle.dm_paths.proofs.Open.{open_where_flagged, flagged_where_open, not_open, flag_is}
use Rattle.dm_evaluate.proofs.evaluator.Evaluator.is_open.Goals as goal

pub returns-in-Some : goal.returns-in-Some
returns-in-Some c =
    let net = c.args.net.now in
    let rows = c.self.inside.rows in
    let path = c.self.inside.path.items in
    let was = subst (IsEvaluatorOf net) (sym c.self.view_is) c.requires in
    let there = c.in-Some.ensures.some in
    let flag : c.is.result ≡ at_place (is_undecided_change net rows path) (is_undecided_pair net rows path) c.in-Some.place =
    c.is.ensures ∙ flag_is net rows path c.args.choice c.in-Some.place there c.self.inside.undecided.changes.items c.self.inside.undecided.pairs.items was.changes was.pairs in (
      λ h. subst (λ (e : EvaluatorValue). IsOpen net e.rows e.path c.args.choice) c.self.view_is
          (open_where_flagged net c.reveal.ensures.network rows path c.args.choice c.in-Some.place there (sym flag ∙ h)),
      λ o. flag ∙ flagged_where_open net c.reveal.ensures.network rows path c.args.choice c.in-Some.place there
          (subst (λ (e : EvaluatorValue). IsOpen net e.rows e.path c.args.choice) (sym c.self.view_is) o),
    )

pub returns-in-None : goal.returns-in-None
returns-in-None c =
    let net = c.args.net.now in (
      λ h. absurd cc,
      λ o. absurd (not_open net c.reveal.ensures.network c.args.self.now.rows c.args.self.now.path c.args.choice c.in-None.ensures.none o),
    )

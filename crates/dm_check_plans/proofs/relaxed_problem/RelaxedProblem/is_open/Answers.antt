use Rattle.std.proofs.Common.{◌≡◌, sym, subst, ◌∙◌}
use Rattle.dm_rows.specs.Relax.{is_undecided_change, is_undecided_pair}
use Rattle.dm_paths.specs.Decisions.{IsOpen}
use Rattle.dm_paths.specs.Places.{at_place}
use Rattle.dm_paths.proofs.Open.{not_open, flag_is}
use Rattle.dm_check_rows.specs.Claims.{Tells}
use Rattle.dm_check_plans.specs.RelaxedProblems.{RelaxedProblemValue, IsRelaxedProblemOf}
use Rattle.dm_check_plans.proofs.Told.{open_is_told}
use Rattle.dm_check_plans.proofs.relaxed_problem.RelaxedProblem.is_open.Goals as goal

pub returns-in-Some : goal.returns-in-Some
returns-in-Some c =
    let net = c.args.net.now in
    let rows = c.args.rows.now in
    let path = c.self.inside.path.items in
    let was = subst (IsRelaxedProblemOf net rows) (sym c.self.view_is) c.requires in
    let there = c.in-Some.ensures.some in
    let flag : c.is.result ≡ at_place (is_undecided_change net rows path) (is_undecided_pair net rows path) c.in-Some.place =
    c.is.ensures ∙ flag_is net rows path c.args.choice c.in-Some.place there c.self.inside.undecided.changes.items c.self.inside.undecided.pairs.items was.changes was.pairs in
    subst (λ (r : RelaxedProblemValue). Tells (IsOpen net rows r.path c.args.choice) c.is.result) c.self.view_is
    (open_is_told net c.reveal.ensures.network rows path c.args.choice c.in-Some.place there c.is.result flag)

pub returns-in-None : goal.returns-in-None
returns-in-None c =
    not_open c.args.net.now c.reveal.ensures.network c.args.rows.now c.args.self.now.path c.args.choice c.in-None.ensures.none

use Rattle.std.proofs.Common.{List, Bool, [], ◌∷◌, ◌++◌, true, false, length, sym, subst}
use Rattle.std.specs.Vec.{with_items}
use Rattle.dm_rows.specs.Decide.{choice_of}
use Rattle.dm_paths.specs.Flags.{is_flagged, with_change, with_pair}
use Rattle.dm_check_times.specs.KeptCosts.{IsPricedFor}
use Rattle.dm_check_plans.specs.Inside.Flags.{AreSetWhere}
use Rattle.dm_paths.specs.Decisions.{is_charged_by}
use Rattle.dm_paths.specs.Decisions.{IsOpen}
use Rattle.dm_check_plans.specs.RelaxedProblems.{RelaxedProblemValue, IsRelaxedProblemOf}
use Rattle.dm_check_plans.proofs.Turned.{decided, over_vec, moved}
use Rattle.dm_check_plans.proofs.relaxed_problem.RelaxedProblem.decide.Goals as goal

pub returns-clause-problem : goal.returns-clause-problem
returns-clause-problem c =
    let net = c.args.net.now in
    let rows = c.args.rows.now in
    let d = c.args.decision in
    let flip = c.flip_of-flip.result in
    let old : RelaxedProblemValue = record { path = c.self.inside.path.items; changes = c.self.inside.undecided.changes.items; pairs = c.self.inside.undecided.pairs.items; charged = c.self.inside.charged.items; timetable = c.self.inside.timetable; kept_cost = c.self.inside.kept_cost; moved = c.self.inside.moved; is_noted = c.self.inside.is_noted; places = c.self.inside.places.items } in
    let was : IsRelaxedProblemOf net rows old = subst (IsRelaxedProblemOf net rows) (sym c.self.view_is) c.requires.problem in
    let opened : IsOpen net rows old.path (choice_of d) = subst (λ (r : RelaxedProblemValue). IsOpen net rows r.path (choice_of d)) (sym c.self.view_is) c.requires.open in
    let charged = (with_items c.self.inside.charged c.turn.new.charged).items in
    let turned = over_vec (is_charged_by flip) true (length net.activities) c.self.inside.charged c.deref_mut.result.now c.turn.new.charged c.deref_mut.ensures.value c.turn.ensures.charged in
    let priced = subst (λ (f : List Bool). IsPricedFor net rows (is_flagged f) c.weigh.new.cost) c.deref.ensures.value
    (c.weigh.ensures.priced old.charged true (subst (λ (f : List Bool). AreSetWhere (is_charged_by flip) true (length net.activities) old.charged f) (sym c.deref.ensures.value) turned) was.costed.priced) in
    let now = decided net c.reveal.ensures.network rows c.requires.sized old was d flip c.flip_of-flip.ensures.flip c.turn.new.timetable c.turn.ensures.timetable c.turn.ensures.keeps charged c.weigh.new.cost c.weigh.ensures.kept priced c.weigh.ensures.times c.turn.ensures.times opened c.turn.ensures.held
    turned in
    moved net rows old.path (with_change flip false old.changes) (with_pair flip false old.pairs) charged c.turn.new.timetable c.weigh.new.cost old.moved old.is_noted old.places
    (old.path ++ d ∷ []) c.push.new.self.items c.set.new.self.changes.items c.set.new.self.pairs.items
    c.in-Ok.ensures.items c.set.ensures.changes c.set.ensures.pairs now

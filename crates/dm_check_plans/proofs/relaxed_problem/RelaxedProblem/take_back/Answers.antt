use Rattle.std.proofs.Common.{List, Bool, [], ◌∷◌, ◌++◌, ◌≡◌, true, false, length, refl, sym, subst, rules}
use Rattle.std.specs.Vec.{with_items}
use Rattle.dm_rows.specs.Decide.{IsChoiceList}
use Rattle.dm_paths.specs.Flags.{is_flagged, with_change, with_pair}
use Rattle.dm_check_times.specs.KeptCosts.{IsPricedFor}
use Rattle.dm_check_plans.specs.Inside.Flags.{AreSetWhere}
use Rattle.dm_paths.specs.Decisions.{is_charged_by}
use Rattle.dm_check_plans.specs.RelaxedProblems.{RelaxedProblemValue, IsRelaxedProblemOf}
use Rattle.dm_check_plans.proofs.Turned.{taken_back, last_is_open, over_vec, moved}
use Rattle.dm_check_plans.proofs.relaxed_problem.RelaxedProblem.take_back.Goals as goal

pub flip_of-flip-requires : goal.flip_of-flip-requires
flip_of-flip-requires c =
    let net = c.args.net.now in
    let rows = c.args.rows.now in
    let was = subst (IsRelaxedProblemOf net rows) (sym c.self.view_is) c.requires.problem in
    let e : c.self.inside.path.items ≡ c.pop.new.self.items ++ c.in-Some.decision ∷ [] = search rules in
    (last_is_open net rows c.pop.new.self.items c.in-Some.decision (subst (IsChoiceList net rows) e was.is_path)).free

pub returns-in-Some-clause-open : goal.returns-in-Some-clause-open
returns-in-Some-clause-open c =
    let net = c.args.net.now in
    let rows = c.args.rows.now in
    let was = subst (IsRelaxedProblemOf net rows) (sym c.self.view_is) c.requires.problem in
    let e : c.self.inside.path.items ≡ c.pop.new.self.items ++ c.in-Some.decision ∷ [] = search rules in
    last_is_open net rows c.pop.new.self.items c.in-Some.decision (subst (IsChoiceList net rows) e was.is_path)

pub returns-in-Some-clause-problem : goal.returns-in-Some-clause-problem
returns-in-Some-clause-problem c =
    let net = c.args.net.now in
    let rows = c.args.rows.now in
    let d = c.in-Some.decision in
    let flip = c.flip_of-flip.result in
    let old : RelaxedProblemValue = record { path = c.self.inside.path.items; changes = c.self.inside.undecided.changes.items; pairs = c.self.inside.undecided.pairs.items; charged = c.self.inside.charged.items; timetable = c.self.inside.timetable; kept_cost = c.self.inside.kept_cost; moved = c.self.inside.moved; is_noted = c.self.inside.is_noted; places = c.self.inside.places.items } in
    let was : IsRelaxedProblemOf net rows old = subst (IsRelaxedProblemOf net rows) (sym c.self.view_is) c.requires.problem in
    let e : c.self.inside.path.items ≡ c.pop.new.self.items ++ c.in-Some.decision ∷ [] = search rules in
    let charged = (with_items c.self.inside.charged c.turn.new.charged).items in
    let turned = over_vec (is_charged_by flip) false (length net.activities) c.self.inside.charged c.deref_mut.result.now c.turn.new.charged c.deref_mut.ensures.value c.turn.ensures.charged in
    let priced = subst (λ (f : List Bool). IsPricedFor net rows (is_flagged f) c.weigh.new.cost) c.deref.ensures.value
    (c.weigh.ensures.priced old.charged false (subst (λ (f : List Bool). AreSetWhere (is_charged_by flip) false (length net.activities) old.charged f) (sym c.deref.ensures.value) turned) was.costed.priced) in
    moved net rows old.path (with_change flip true old.changes) (with_pair flip true old.pairs) charged c.turn.new.timetable c.weigh.new.cost old.moved old.is_noted old.places
    c.pop.new.self.items c.pop.new.self.items c.set.new.self.changes.items c.set.new.self.pairs.items refl c.set.ensures.changes c.set.ensures.pairs
    (taken_back net c.reveal.ensures.network rows c.requires.sized old was d flip c.flip_of-flip.ensures.flip c.turn.new.timetable c.turn.ensures.timetable c.turn.ensures.keeps charged c.weigh.new.cost c.weigh.ensures.kept priced c.weigh.ensures.times c.turn.ensures.times c.pop.new.self.items e c.turn.ensures.held
    turned)

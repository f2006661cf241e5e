use Rattle.std.proofs.Common.{sym, ap, subst, ◌∙◌}
use Rattle.dm_evaluate.specs.Evaluator.{EvaluatorValue, IsEvaluatorOf, path_without}
use Rattle.dm_evaluate.proofs.Decided.{evaluator_least, undecide_free, undecide_is, undecide_path}
use Rattle.dm_evaluate.proofs.evaluator.Evaluator.undecide.Goals as goal

pub flip_of-flip-requires : goal.flip_of-flip-requires
flip_of-flip-requires g c =
    let old : EvaluatorValue = record { rows = c.self.inside.rows; path = c.self.inside.path.items; changes = c.self.inside.undecided.changes.items; pairs = c.self.inside.undecided.pairs.items; priced = c.self.inside.priced; marks = record { changes = c.self.inside.marks.changes; pairs = c.self.inside.marks.pairs } } in
    undecide_free c.args.net.now c.reveal.ensures.network old (subst (IsEvaluatorOf c.args.net.now) (sym c.self.view_is) c.requires.evaluator) c.args.choice c.index.result.now c.place_of-place.result
    c.deref.result.now c.deref.ensures.value c.place_of-place.ensures c.index.ensures

pub returns-clause-evaluator : goal.returns-clause-evaluator
returns-clause-evaluator g c =
    let old : EvaluatorValue = record { rows = c.self.inside.rows; path = c.self.inside.path.items; changes = c.self.inside.undecided.changes.items; pairs = c.self.inside.undecided.pairs.items; priced = c.self.inside.priced; marks = record { changes = c.self.inside.marks.changes; pairs = c.self.inside.marks.pairs } } in
    undecide_is c.args.net.now c.reveal.ensures.network old (subst (IsEvaluatorOf c.args.net.now) (sym c.self.view_is) c.requires.evaluator) c.args.choice c.index.result.now c.place_of-place.result
    c.deref.result.now c.deref.ensures.value c.place_of-place.ensures c.index.ensures
    c.flip_of-flip.result c.flip_of-flip.ensures.flip
    c.remove-decision.new.self.items c.set.new.self.changes.items c.set.new.self.pairs.items c.turn_off.new.priced
    c.remove-decision.ensures.items c.set.ensures.changes c.set.ensures.pairs c.turn_off.ensures.priced c.turn_off.ensures.at_rest c.turn_off.ensures.turns
    (record { changes = c.turn_off.new.marks.changes; pairs = c.turn_off.new.marks.pairs }) c.turn_off.ensures.marks

pub returns-clause-path : goal.returns-clause-path
returns-clause-path g c =
    let old : EvaluatorValue = record { rows = c.self.inside.rows; path = c.self.inside.path.items; changes = c.self.inside.undecided.changes.items; pairs = c.self.inside.undecided.pairs.items; priced = c.self.inside.priced; marks = record { changes = c.self.inside.marks.changes; pairs = c.self.inside.marks.pairs } } in
    undecide_path c.args.net.now c.reveal.ensures.network old (subst (IsEvaluatorOf c.args.net.now) (sym c.self.view_is) c.requires.evaluator) c.args.choice c.index.result.now c.place_of-place.result
    c.deref.result.now c.deref.ensures.value c.place_of-place.ensures c.index.ensures
    c.remove-decision.new.self.items c.remove-decision.ensures.items
    ∙ ap (λ (e : EvaluatorValue). path_without c.args.choice e.path) c.self.view_is

pub returns-clause-least : goal.returns-clause-least
returns-clause-least g c = evaluator_least c.args.net.now _ c.reveal.ensures.network.formed.ends_are_known (returns-clause-evaluator g c)

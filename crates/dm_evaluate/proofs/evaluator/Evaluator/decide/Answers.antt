use Rattle.std.proofs.Common.{◌∷◌, [], ◌++◌, sym, ap, subst, ◌∙◌, arith}
use Rattle.dm_rows.specs.Decide.{choice_of}
use Rattle.dm_tree.specs.Relaxed.{HasNoRelaxedCycle, IsRelaxedCycle}
use Rattle.dm_evaluate.specs.Evaluator.{EvaluatorValue, IsEvaluatorOf, times_of}
use Rattle.dm_paths.specs.Decisions.{IsOpen}
use Rattle.dm_evaluate.proofs.Decided.{evaluator_least, evaluator_no_cycle, decide_off, decide_room, decide_cycle, decide_is, refused_is, refused_times}
use Rattle.dm_evaluate.proofs.evaluator.Evaluator.decide.Goals as goal

pub flip_of-flip-requires : goal.flip_of-flip-requires
flip_of-flip-requires g c =
    (subst (λ (e : EvaluatorValue). IsOpen c.args.net.now e.rows e.path (choice_of c.args.decision)) (sym c.self.view_is) c.requires.open).free

pub turn_on-requires-clause-off : goal.turn_on-requires-clause-off
turn_on-requires-clause-off g c =
    let old : EvaluatorValue = record { rows = c.self.inside.rows; path = c.self.inside.path.items; changes = c.self.inside.undecided.changes.items; pairs = c.self.inside.undecided.pairs.items; priced = c.self.inside.priced; marks = record { changes = c.self.inside.marks.changes; pairs = c.self.inside.marks.pairs } } in
    let opened = subst (λ (e : EvaluatorValue). IsOpen c.args.net.now e.rows e.path (choice_of c.args.decision)) (sym c.self.view_is) c.requires.open in
    decide_off c.args.net.now c.reveal.ensures.network old (subst (IsEvaluatorOf c.args.net.now) (sym c.self.view_is) c.requires.evaluator) c.args.decision opened c.flip_of-flip.result c.flip_of-flip.ensures.flip

pub push_reserved-requires : goal.push_reserved-requires
push_reserved-requires g c =
    let old : EvaluatorValue = record { rows = c.self.inside.rows; path = c.self.inside.path.items; changes = c.self.inside.undecided.changes.items; pairs = c.self.inside.undecided.pairs.items; priced = c.self.inside.priced; marks = record { changes = c.self.inside.marks.changes; pairs = c.self.inside.marks.pairs } } in
    let opened = subst (λ (e : EvaluatorValue). IsOpen c.args.net.now e.rows e.path (choice_of c.args.decision)) (sym c.self.view_is) c.requires.open in
    let room = decide_room c.args.net.now c.reveal.ensures.network old (subst (IsEvaluatorOf c.args.net.now) (sym c.self.view_is) c.requires.evaluator) c.args.decision opened c.flip_of-flip.result c.flip_of-flip.ensures.flip in
    let wide = c.self.invariant in
    omega (arith, room, wide)

pub returns-in-Ok-clause-evaluator : goal.returns-in-Ok-clause-evaluator
returns-in-Ok-clause-evaluator g c =
    let old : EvaluatorValue = record { rows = c.self.inside.rows; path = c.self.inside.path.items; changes = c.self.inside.undecided.changes.items; pairs = c.self.inside.undecided.pairs.items; priced = c.self.inside.priced; marks = record { changes = c.self.inside.marks.changes; pairs = c.self.inside.marks.pairs } } in
    let opened = subst (λ (e : EvaluatorValue). IsOpen c.args.net.now e.rows e.path (choice_of c.args.decision)) (sym c.self.view_is) c.requires.open in
    decide_is c.args.net.now c.reveal.ensures.network old (subst (IsEvaluatorOf c.args.net.now) (sym c.self.view_is) c.requires.evaluator) c.args.decision opened c.flip_of-flip.result c.flip_of-flip.ensures.flip
    c.push_reserved.new.self.items c.set.new.self.changes.items c.set.new.self.pairs.items c.turn_on.new.priced
    c.push_reserved.ensures.items c.set.ensures.changes c.set.ensures.pairs c.in-Ok.ensures.priced c.in-Ok.ensures.at_rest c.in-Ok.ensures.turns
    (record { changes = c.turn_on.new.marks.changes; pairs = c.turn_on.new.marks.pairs }) c.in-Ok.ensures.marks

pub returns-in-Ok-clause-least : goal.returns-in-Ok-clause-least
returns-in-Ok-clause-least g c = evaluator_least c.args.net.now _ c.reveal.ensures.network.formed.ends_are_known (returns-in-Ok-clause-evaluator g c)

pub returns-in-Ok-clause-no_cycle : goal.returns-in-Ok-clause-no_cycle
returns-in-Ok-clause-no_cycle g c =
    subst (λ (e : EvaluatorValue). HasNoRelaxedCycle c.args.net.now e.rows (e.path ++ c.args.decision ∷ [])) c.self.view_is
    (rw (← c.push_reserved.ensures.items) (evaluator_no_cycle c.args.net.now _ (returns-in-Ok-clause-evaluator g c)))

pub returns-in-Err-clause-evaluator : goal.returns-in-Err-clause-evaluator
returns-in-Err-clause-evaluator g c =
    let old : EvaluatorValue = record { rows = c.self.inside.rows; path = c.self.inside.path.items; changes = c.self.inside.undecided.changes.items; pairs = c.self.inside.undecided.pairs.items; priced = c.self.inside.priced; marks = record { changes = c.self.inside.marks.changes; pairs = c.self.inside.marks.pairs } } in
    refused_is c.args.net.now c.reveal.ensures.network old (subst (IsEvaluatorOf c.args.net.now) (sym c.self.view_is) c.requires.evaluator) c.turn_on.new.priced c.in-Err.ensures.priced c.in-Err.ensures.at_rest c.in-Err.ensures.stays
    (record { changes = c.turn_on.new.marks.changes; pairs = c.turn_on.new.marks.pairs }) c.in-Err.ensures.marks

pub returns-in-Err-clause-least : goal.returns-in-Err-clause-least
returns-in-Err-clause-least g c = evaluator_least c.args.net.now _ c.reveal.ensures.network.formed.ends_are_known (returns-in-Err-clause-evaluator g c)

pub returns-in-Err-clause-unchanged : goal.returns-in-Err-clause-unchanged
returns-in-Err-clause-unchanged g c =
    let old : EvaluatorValue = record { rows = c.self.inside.rows; path = c.self.inside.path.items; changes = c.self.inside.undecided.changes.items; pairs = c.self.inside.undecided.pairs.items; priced = c.self.inside.priced; marks = record { changes = c.self.inside.marks.changes; pairs = c.self.inside.marks.pairs } } in (
      ap (λ (e : EvaluatorValue). e.path) c.self.view_is,
      refused_times c.args.net.now c.reveal.ensures.network old (subst (IsEvaluatorOf c.args.net.now) (sym c.self.view_is) c.requires.evaluator) c.turn_on.new.priced c.in-Err.ensures.priced c.in-Err.ensures.at_rest c.in-Err.ensures.stays
          ∙ ap times_of c.self.view_is,
    )

pub returns-in-Err-clause-cycle : goal.returns-in-Err-clause-cycle
returns-in-Err-clause-cycle g c =
    let old : EvaluatorValue = record { rows = c.self.inside.rows; path = c.self.inside.path.items; changes = c.self.inside.undecided.changes.items; pairs = c.self.inside.undecided.pairs.items; priced = c.self.inside.priced; marks = record { changes = c.self.inside.marks.changes; pairs = c.self.inside.marks.pairs } } in
    let opened = subst (λ (e : EvaluatorValue). IsOpen c.args.net.now e.rows e.path (choice_of c.args.decision)) (sym c.self.view_is) c.requires.open in
    subst (λ (e : EvaluatorValue). IsRelaxedCycle c.args.net.now e.rows (e.path ++ c.args.decision ∷ []) c.turn_on.new.priced.live.order.cycle) c.self.view_is
    (decide_cycle c.args.net.now c.reveal.ensures.network old (subst (IsEvaluatorOf c.args.net.now) (sym c.self.view_is) c.requires.evaluator) c.args.decision opened c.flip_of-flip.result c.flip_of-flip.ensures.flip
    c.turn_on.new.priced.live.order.cycle c.in-Err.ensures.cycle)

pub turn_on-requires-clause-open : goal.turn_on-requires-clause-open
turn_on-requires-clause-open g c = (subst (IsEvaluatorOf c.args.net.now) (sym c.self.view_is) c.requires.evaluator).evaluates.none_fixed

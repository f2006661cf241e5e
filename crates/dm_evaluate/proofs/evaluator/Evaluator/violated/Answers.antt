use Rattle.std.proofs.Common.{◌≡◌, ℕ, List, sym, ap, subst, ◌∙◌}
use Rattle.std.specs.Prelude.{IfSome}
use Rattle.dm_live.specs.Live.{LiveValue}
use Rattle.dm_rows.specs.Cost.{comes_too_early}
use Rattle.dm_evaluate.specs.Evaluator.{EvaluatorValue, IsEvaluatorOf, times_of}
use Rattle.dm_paths.specs.Decisions.{IsOpen}
use Rattle.dm_evaluate.specs.Inside.Marking.{Clears}
use Rattle.dm_paths.specs.Decisions.{is_unmet_pair}
use Rattle.dm_relax.specs.Relaxed.{first_violated}
use Rattle.dm_evaluate.proofs.Open.{flagged_is_open}
use Rattle.dm_evaluate.proofs.Violating.{from_start}
use Rattle.dm_evaluate.specs.Inside.Violations.{AreMarked}
use Rattle.dm_evaluate.proofs.Unkept.{marks_of_changes, marks_of_pairs, cleared_is}
use Rattle.dm_evaluate.proofs.evaluator.Evaluator.violated.Goals as goal

pub first_violated-requires-clause-marked : goal.first_violated-requires-clause-marked
first_violated-requires-clause-marked g c =
    let old : EvaluatorValue = record { rows = c.self.inside.rows; path = c.self.inside.path.items; changes = c.self.inside.undecided.changes.items; pairs = c.self.inside.undecided.pairs.items; priced = c.self.inside.priced; marks = record { changes = c.self.inside.marks.changes; pairs = c.self.inside.marks.pairs } } in
    let was = subst (IsEvaluatorOf c.args.net.now) (sym c.self.view_is) c.requires in
    let same : c.times-times.result.now ≡ c.self.inside.priced.live.times = c.times-times.ensures ∙ ap (λ (l : LiveValue). l.times) c.live.ensures in
    subst (λ (x : List ℕ). AreMarked c.args.net.now old.rows x c.self.inside.undecided c.self.inside.marks) (sym same)
    (record {
      flags = record { changes = was.changes.size; pairs = was.pairs.size };
      changes = marks_of_changes c.args.net.now old was;
      pairs = marks_of_pairs c.args.net.now old was;
    })

pub returns-clause-evaluator : goal.returns-clause-evaluator
returns-clause-evaluator g c =
    let old : EvaluatorValue = record { rows = c.self.inside.rows; path = c.self.inside.path.items; changes = c.self.inside.undecided.changes.items; pairs = c.self.inside.undecided.pairs.items; priced = c.self.inside.priced; marks = record { changes = c.self.inside.marks.changes; pairs = c.self.inside.marks.pairs } } in
    let was = subst (IsEvaluatorOf c.args.net.now) (sym c.self.view_is) c.requires in
    let same : c.times-times.result.now ≡ c.self.inside.priced.live.times = c.times-times.ensures ∙ ap (λ (l : LiveValue). l.times) c.live.ensures in
    cleared_is c.args.net.now old was (record { changes = c.first_violated.new.marks.changes; pairs = c.first_violated.new.marks.pairs })
    (subst (λ (x : List ℕ). Clears (comes_too_early c.args.net.now old.rows x) old.marks.changes c.first_violated.new.marks.changes) same c.first_violated.ensures.cleared.changes)
    (subst (λ (x : List ℕ). Clears (is_unmet_pair c.args.net.now old.rows x) old.marks.pairs c.first_violated.new.marks.pairs) same c.first_violated.ensures.cleared.pairs)

pub returns-clause-open : goal.returns-clause-open
returns-clause-open g c =
    let old : EvaluatorValue = record { rows = c.self.inside.rows; path = c.self.inside.path.items; changes = c.self.inside.undecided.changes.items; pairs = c.self.inside.undecided.pairs.items; priced = c.self.inside.priced; marks = record { changes = c.self.inside.marks.changes; pairs = c.self.inside.marks.pairs } } in
    let was = subst (IsEvaluatorOf c.args.net.now) (sym c.self.view_is) c.requires in
    subst (λ (e : EvaluatorValue). IfSome c.first_violated.result (IsOpen c.args.net.now e.rows e.path)) c.self.view_is
    (flagged_is_open c.args.net.now c.reveal.ensures.network old.rows old.path c.self.inside.undecided (record { changes = was.changes; pairs = was.pairs }) c.first_violated.result c.first_violated.ensures.flagged)

pub returns-clause-first : goal.returns-clause-first
returns-clause-first g c =
    let old : EvaluatorValue = record { rows = c.self.inside.rows; path = c.self.inside.path.items; changes = c.self.inside.undecided.changes.items; pairs = c.self.inside.undecided.pairs.items; priced = c.self.inside.priced; marks = record { changes = c.self.inside.marks.changes; pairs = c.self.inside.marks.pairs } } in
    let was = subst (IsEvaluatorOf c.args.net.now) (sym c.self.view_is) c.requires in
    let same : c.times-times.result.now ≡ c.self.inside.priced.live.times = c.times-times.ensures ∙ ap (λ (l : LiveValue). l.times) c.live.ensures in
    subst (λ (e : EvaluatorValue). c.first_violated.result ≡ first_violated c.args.net.now e.rows e.path (times_of e)) c.self.view_is
    (subst (λ (x : List ℕ). c.first_violated.result ≡ first_violated c.args.net.now old.rows old.path x) same
    (c.first_violated.ensures.first old.path (record { changes = was.changes; pairs = was.pairs })
    ∙ from_start c.args.net.now old.rows old.path c.times-times.result.now))

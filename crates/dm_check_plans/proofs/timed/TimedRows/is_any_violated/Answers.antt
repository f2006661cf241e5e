use Rattle.std.proofs.Common.{List, Bool, length, subst, sym, ◌∙◌}
use Rattle.dm_rows.specs.Cost.{comes_too_early}
use Rattle.dm_check_plans.specs.Inside.Violations.{SomeFlagged, NoneFlagged, AreFlagsOfChanges}
use Rattle.dm_check_plans.proofs.Open.{change_violated, violated_told, no_free_change}
use Rattle.dm_check_plans.proofs.timed.TimedRows.is_any_violated.Goals as goal

pub returns-then-is_any_change_early : goal.returns-then-is_any_change_early
returns-then-is_any_change_early c path are =
    let net = c.args.self.now.net.now in
    let rows = c.args.self.now.rows.now in
    let x = c.args.self.now.times.now in
    change_violated net rows path x c.args.undecided.now.changes.items c.args.undecided.now.pairs.items are.0 are.1
    (subst (λ (f : List Bool). SomeFlagged f (comes_too_early net rows x) (length net.activities)) c.deref.ensures.value
    (c.is_any_change_early.ensures.some c.if-is_any_change_early.true))

pub returns : goal.returns
returns c path are =
    let net = c.args.self.now.net.now in
    let rows = c.args.self.now.rows.now in
    let x = c.args.self.now.times.now in
    violated_told net rows path x c.args.undecided.now.changes.items c.args.undecided.now.pairs.items are.0 are.1
    c.deref-2.result.now c.deref-2.ensures.value
    (subst (λ (f : List Bool). NoneFlagged f (comes_too_early net rows x) (length net.activities)) c.deref.ensures.value
    (c.is_any_change_early.ensures.none c.if-is_any_change_early.false
    (subst (λ (f : List Bool). AreFlagsOfChanges net f) (sym c.deref.ensures.value) (λ a below other. are.0.each a below ∙ no_free_change net rows path a other))))
    c.is_any_pair_unmet.result c.is_any_pair_unmet.ensures.some c.is_any_pair_unmet.ensures.none

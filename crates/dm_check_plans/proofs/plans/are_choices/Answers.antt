use Rattle.std.proofs.Common.{List, map, sym, subst, ◌∙◌}
use Rattle.dm_rows.specs.Decide.{choice_of}
use Rattle.dm_rows.specs.declared.messages.Choice.{Choice}
use Rattle.dm_tree.specs.Plans.{AreSomeOf}
use Rattle.dm_check_plans.proofs.Chosen.{chosen_are_free, choices_told}
use Rattle.dm_check_plans.proofs.plans.are_choices.Goals as goal

pub returns-then-not-are_some_of-clause-tells : goal.returns-then-not-are_some_of-clause-tells
returns-then-not-are_some_of-clause-tells c = λ budget t.
    c.if-not-are_some_of.ensures
    (subst (λ (free : List Choice). AreSomeOf free (map choice_of c.args.choices.now)) (sym (c.deref.ensures.value ∙ c.in-Ok.ensures)) t.in_order)

pub are_all_different-requires-clause-free : goal.are_all_different-requires-clause-free
are_all_different-requires-clause-free c =
    chosen_are_free c.args.net.now c.args.rows.now c.args.choices.now
    (subst (λ (free : List Choice). AreSomeOf free (map choice_of c.args.choices.now)) (c.deref.ensures.value ∙ c.in-Ok.ensures) c.if-not-are_some_of.ensures)

pub returns-then-not-are_all_different-clause-tells : goal.returns-then-not-are_all_different-clause-tells
returns-then-not-are_all_different-clause-tells c = λ budget t.
    c.if-not-are_all_different.ensures c.args.penalty budget t.differ

pub cost_with-requires-clause-free : goal.cost_with-requires-clause-free
cost_with-requires-clause-free c =
    chosen_are_free c.args.net.now c.args.rows.now c.args.choices.now
    (subst (λ (free : List Choice). AreSomeOf free (map choice_of c.args.choices.now)) (c.deref.ensures.value ∙ c.in-Ok.ensures) c.if-not-are_some_of.ensures)

pub returns-in-Ok-cost_with-clause-tells : goal.returns-in-Ok-cost_with-clause-tells
returns-in-Ok-cost_with-clause-tells c = λ budget.
    choices_told c.args.net.now c.args.rows.now c.args.penalty budget c.args.choices.now c.args.cost
    (subst (λ (free : List Choice). AreSomeOf free (map choice_of c.args.choices.now)) (c.deref.ensures.value ∙ c.in-Ok.ensures) c.if-not-are_some_of.ensures)
    (c.if-not-are_all_different.ensures c.args.penalty budget) c.in-Ok-cost_with.costs (c.in-Ok-cost_with.ensures.tells budget)

use Rattle.std.proofs.Common.{refl, sym, ap, subst, ◌∙◌, drop}
use Rattle.std.specs.Prelude.{◌≡◌, OnOk, OnErr}
use Rattle.std.proofs.lemmas.List.{take_rest}
use Rattle.dm_rows.specs.Decide.{IsChoiceList}
use Rattle.dm_traverse.specs.Steps.{HasRelaxedCycle}
use Rattle.dm_traverse.proofs.Fronts.{front_of_front, front_within, front_begins, front_joins}
use Rattle.dm_traverse.proofs.walking.walk.Goals as goal

pub back_to-requires-clause-within : goal.back_to-requires-clause-within
back_to-requires-clause-within c =
    front_within _ _ _ _ _ _ _ refl c.requires.evaluator.begins.is (c.behind.ensures ∙ ap (drop _) c.path.ensures) c.common_front-common.ensures

pub make_all-requires-clause-list : goal.make_all-requires-clause-list
make_all-requires-clause-list c =
    let joins = front_joins _ _ _ _ _ _ _ refl c.requires.evaluator.begins.is (c.behind.ensures ∙ ap (drop _) c.path.ensures) c.common_front-common.ensures
    _ _ c.back_to.ensures.path (take_rest c.args.path.now c.common_front-common.result) in
    rw (c.back_to.ensures.rows, c.requires.evaluator.same) (subst (IsChoiceList _ _) (sym joins) c.requires.list)

pub returns-clause-evaluator : goal.returns-clause-evaluator
returns-clause-evaluator c =
    record {
      is = c.make_all.ensures.evaluator;
      same = c.make_all.ensures.rows ∙ (c.back_to.ensures.rows ∙ c.requires.evaluator.same);
      begins = front_of_front _ _ _
          (front_begins _ _ _ _ _ _ _ refl c.requires.evaluator.begins.is (c.behind.ensures ∙ ap (drop _) c.path.ensures) c.common_front-common.ensures
          _ c.back_to.ensures.path) c.make_all.ensures.front;
    }

pub returns-clause-there : goal.returns-clause-there
returns-clause-there c =
    let joins = front_joins _ _ _ _ _ _ _ refl c.requires.evaluator.begins.is (c.behind.ensures ∙ ap (drop _) c.path.ensures) c.common_front-common.ensures
    _ _ c.back_to.ensures.path (take_rest c.args.path.now c.common_front-common.result) in
    subst (λ p. OnOk c.make_all.result (c.make_all.new.evaluator.path ≡ p)) joins c.make_all.ensures.there

pub returns-clause-cycle : goal.returns-clause-cycle
returns-clause-cycle c =
    let joins = front_joins _ _ _ _ _ _ _ refl c.requires.evaluator.begins.is (c.behind.ensures ∙ ap (drop _) c.path.ensures) c.common_front-common.ensures
    _ _ c.back_to.ensures.path (take_rest c.args.path.now c.common_front-common.result) in
    subst (λ p. OnErr c.make_all.result (HasRelaxedCycle c.args.task.now.net.now c.args.task.now.rows.now p)) joins
    (rw (c.back_to.ensures.rows ∙ c.requires.evaluator.same) at c.make_all.ensures.cycle)

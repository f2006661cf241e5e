use Rattle.std.proofs.Common.{List, ap, sym, subst, ◌∙◌}
use Rattle.std.specs.List.{remove}
use Rattle.dm_rows.specs.declared.messages.Decision.{Decision}
use Rattle.dm_rows.specs.Decide.{IsChoiceList}
use Rattle.dm_stretch.proofs.GivenBack.{list_removed}
use Rattle.dm_stretch.proofs.thinning.cost_without.Goals as goal

pub cost_with-requires-clause-list : goal.cost_with-requires-clause-list
cost_with-requires-clause-list c =
    subst (IsChoiceList c.args.net.now c.args.rows.now)
    (sym (c.as_slice.ensures.value ∙ (c.remove.ensures.items ∙ ap (λ (ds : List Decision). remove ds c.args.place) c.in_ok-others.ensures.items)))
    (list_removed c.args.net.now c.args.rows.now c.args.decisions.now c.args.place c.requires.list)

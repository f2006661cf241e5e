use Rattle.std.proofs.Common.{◌∙◌}
use Rattle.dm_stretch.proofs.Carrying.{kept_list, rebased_from, refused_from}
use Rattle.dm_stretch.proofs.rebasing.rebase_free.Goals as goal

pub cost_carried-requires-clause-list : goal.cost_carried-requires-clause-list
cost_carried-requires-clause-list c = kept_list _ _ _ _ c.requires.once c.requires.free (c.deref.ensures.value ∙ c.in-Ok.ensures)

pub returns-in-Ok-cost_carried-clause-rebased : goal.returns-in-Ok-cost_carried-clause-rebased
returns-in-Ok-cost_carried-clause-rebased c =
    rebased_from _ _ _ _ _ _ _ c.requires.free (c.deref.ensures.value ∙ c.in-Ok.ensures) (c.from_vec.ensures ∙ c.in-Ok.ensures)
    c.in-Ok-cost_carried.ensures.carried

pub returns-in-Err-clause-refused : goal.returns-in-Err-clause-refused
returns-in-Err-clause-refused c =
    refused_from _ _ _ _ _ c.requires.free (c.deref.ensures.value ∙ c.in-Ok.ensures) c.in-Err.ensures.refused

use Rattle.dm_team.proofs.Planned.{plan_cheaper, plan_led, made_together, together_of}
use Rattle.dm_team.proofs.searching.search_guided.Goals as goal

pub returns-clause-no_dearer : goal.returns-clause-no_dearer
returns-clause-no_dearer g c =
    plan_cheaper c.plan_of.result _ _ c.in_ok-beginning.ensures.no_dearer
    (plan_cheaper c.plan_of.result _ _ c.in_ok-found.ensures.no_dearer c.plan_of.ensures.cost)

pub returns-clause-led : goal.returns-clause-led
returns-clause-led g c =
    plan_led c.plan_of.result _ _ _ c.in_ok-beginning.ensures.led (plan_cheaper c.plan_of.result _ _ c.in_ok-found.ensures.no_dearer c.plan_of.ensures.cost)

pub returns-clause-together : goal.returns-clause-together
returns-clause-together g c =
    let same = c.in_ok-beginning.ensures.same in
    together_of c.plan_of.result _ _ _ _ _ _ same.1 same.0
    (made_together c.plan_of.result _ _ _ _ _ _ _ _ _ _ c.in_ok-found.ensures.word.0 c.in_ok-found.ensures.found c.in_ok-found.ensures.accounted
    c.in_ok-found.ensures.drained c.in_ok-found.ensures.owners c.plan_of.ensures.cost c.plan_of.ensures.pruned c.plan_of.ensures.grows)

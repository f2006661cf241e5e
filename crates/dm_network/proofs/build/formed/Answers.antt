-- What the stages say together.
use Rattle.std.proofs.Common.{◌∙◌, ap, map, subst}
use Rattle.dm_network.specs.Inside.Stages.{with_pair, AreActivitiesOf, AreTwoWay, RefusesActivities}
use Rattle.dm_network.proofs.Making.{made, limits, activities_refused}
use Rattle.dm_network.proofs.build.formed.Goals as goal

pub returns-in-Err-activities_from-clause-refused : goal.returns-in-Err-activities_from-clause-refused
returns-in-Err-activities_from-clause-refused c =
    activities_refused c.args.events.items c.args.activities.items c.in-Ok.events.items c.in-Err-activities_from.fault c.requires.few c.in-Ok.ensures.ok
    (subst (λ rows. RefusesActivities c.in-Ok.events.items rows c.in-Err-activities_from.fault) c.deref-2.ensures.value
    (subst (λ events. RefusesActivities events c.deref-2.result.now c.in-Err-activities_from.fault) c.deref.ensures.value c.in-Err-activities_from.ensures.err))

pub returns-clause-made : goal.returns-clause-made
returns-clause-made c =
    made c.in-Ok.events.items c.in-Ok-activities_from.activities.items c.in_ok-pairs.pairs.items c.paired-activities.result.items
    (c.paired-activities.ensures ∙ ap (λ pairs. map (with_pair pairs) c.in-Ok-activities_from.activities.items) c.deref-4.ensures.value)
    c.in_ok-pairs.ensures.in_order
    (subst (λ activities. AreTwoWay activities c.in_ok-pairs.pairs.items) c.deref-3.ensures.value c.in_ok-pairs.ensures.two_way)
    c.args.events.items c.args.activities.items c.in-Ok.ensures.ok
    (subst (λ rows. AreActivitiesOf c.in-Ok.events.items rows c.in-Ok-activities_from.activities.items) c.deref-2.ensures.value
    (subst (λ events. AreActivitiesOf events c.deref-2.result.now c.in-Ok-activities_from.activities.items) c.deref.ensures.value c.in-Ok-activities_from.ensures.ok))

pub returns-clause-within : goal.returns-clause-within
returns-clause-within c =
    limits c.args.events.items c.args.activities.items c.in-Ok.events.items c.in-Ok-activities_from.activities.items c.paired-activities.result.items c.in_ok-pairs.pairs.items
    c.in-Ok.ensures.ok
    (subst (λ rows. AreActivitiesOf c.in-Ok.events.items rows c.in-Ok-activities_from.activities.items) c.deref-2.ensures.value
    (subst (λ events. AreActivitiesOf events c.deref-2.result.now c.in-Ok-activities_from.activities.items) c.deref.ensures.value c.in-Ok-activities_from.ensures.ok))
    (c.paired-activities.ensures ∙ ap (λ pairs. map (with_pair pairs) c.in-Ok-activities_from.activities.items) c.deref-4.ensures.value)
    c.requires.within c.requires.few

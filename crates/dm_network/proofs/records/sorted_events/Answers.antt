use Rattle.std.proofs.Common.{rules, ◌∙◌, ap}
use Rattle.std.proofs.lemmas.List.Sorted.{IsNonDecreasingBy-from_sort_by_key}
use Rattle.dm_network.proofs.Resolving.{same_records, events_ascend}
use Rattle.dm_network.specs.Inside.Stages.{event_with}
use Rattle.std.proofs.Common.{map}
use Rattle.dm_network.proofs.records.sorted_events.Goals as goal

pub returns-clause-same : goal.returns-clause-same
returns-clause-same c =
    same_records c.args.rows.items c.sort_by_key.new.self.items c.in_ok-events.events.items c.sort_by_key.ensures.permutation
    (c.in_ok-events.ensures ∙ ap (λ rows. map event_with rows) c.deref.ensures.value)

pub returns-clause-ascend : goal.returns-clause-ascend
returns-clause-ascend c =
    events_ascend c.sort_by_key.new.self.items c.in_ok-events.events.items
    (IsNonDecreasingBy-from_sort_by_key (λ row. row.id.0) _ c.in_ok-sort_by_key.ensures.sorted (λ a r q k. search rules))
    (c.in_ok-events.ensures ∙ ap (λ rows. map event_with rows) c.deref.ensures.value)

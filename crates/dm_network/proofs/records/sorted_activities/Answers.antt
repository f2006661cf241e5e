use Rattle.std.proofs.Common.{rules}
use Rattle.std.proofs.lemmas.List.Sorted.{IsNonDecreasingBy-from_sort_by_key}
use Rattle.dm_network.proofs.Keys.{keys_do_not_fall}
use Rattle.dm_network.proofs.records.sorted_activities.Goals as goal

pub returns-clause-ascend : goal.returns-clause-ascend
returns-clause-ascend c =
    keys_do_not_fall (λ a. a.id.0) c.sort_by_key.new.self.items
    (IsNonDecreasingBy-from_sort_by_key (λ a. a.id.0) _ c.in_ok-sort_by_key.ensures.sorted (λ a r q k. search rules))

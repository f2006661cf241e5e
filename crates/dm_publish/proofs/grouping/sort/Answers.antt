use Rattle.std.proofs.Common.{rules}
use Rattle.std.proofs.lemmas.List.Sorted.{answers_always}
use Rattle.dm_publish.specs.declared.changes.Listed.{Listed}
use Rattle.dm_publish.proofs.Grouped.{stops_rise}
use Rattle.dm_publish.proofs.grouping.sort.Goals as goal

pub returns-clause-sorted : goal.returns-clause-sorted
returns-clause-sorted c =
    stops_rise _ (c.sort_unstable_by_key.ensures.sorted (λ (l : Listed). (l.stop.0, l.place)) (answers_always _ _ _ (λ f a r g h. search rules)))

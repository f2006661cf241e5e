use Rattle.std.proofs.Common.{rules}
use Rattle.std.proofs.lemmas.List.Sorted.{answers_always}
use Rattle.dm_network.proofs.TwoWay.{sorted_do_not_fall}
use Rattle.dm_network.proofs.pairing.sorted_pairs.Goals as goal

pub returns-clause-ascend : goal.returns-clause-ascend
returns-clause-ascend c =
    sorted_do_not_fall c.sort_by_key.new.self.items
    (c.in_ok-sort_by_key.ensures.sorted (λ p. (p.small, p.large)) (answers_always _ _ _ (λ f a r q k. search rules)))

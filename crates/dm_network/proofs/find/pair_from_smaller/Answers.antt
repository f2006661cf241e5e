-- Where the halving stops stands the pair, or none does.
use Rattle.std.proofs.Common.{◌≡◌, ◌<◌, true, false, length, get_or, sym, arith, rules}
use Rattle.std.specs.List.Sorted.{IsPartitionPoint}
use Rattle.std.proofs.lemmas.List.Sorted.{IsPartitionPoint-from_clause}
use Rattle.dm_network.specs.Net.{no_pair}
use Rattle.dm_network.specs.Inside.Flat.{stands_before}
use Rattle.dm_network.proofs.PairKeys.{pair_is_found, pair_is_absent, joins_forward, joins_backward, pairs_are_partitioned}
use Rattle.dm_network.proofs.find.pair_from_smaller.Goals as goal
use Rattle.dm_network.proofs.find.pair_from_smaller.Goals.{else-place-pairs-via-then-place-pairs+then-pairs-place+else-pairs-place-2, else-place-pairs-via-then-place-pairs+else-pairs-place, else-place-pairs-via-else-place-pairs}

part : (c : goal.Joined-else-place-pairs) →
    IsPartitionPoint (λ p. stands_before p c.args.small c.args.large ≡ true) (λ p. stands_before p c.args.small c.args.large ≡ false)
    c.args.pairs.now c.partition_point-place.result
part c =
    IsPartitionPoint-from_clause (λ p. stands_before p c.args.small c.args.large) c.args.pairs.now c.partition_point-place.result
    c.partition_point-place.ensures.partitioned
    (pairs_are_partitioned c.args.pairs.now c.requires.in_order c.args.small c.args.large)
    (λ a r q h. search rules)

other : (c : goal.Joined-else-place-pairs) → c.partition_point-place.result < length c.args.pairs.now →
    (get_or c.args.pairs.now c.partition_point-place.result no_pair).small ≡ c.args.small →
    (get_or c.args.pairs.now c.partition_point-place.result no_pair).large ≡ c.args.large → ⊥
other c lt s l =
    elim c.else-place-pairs.branch [
      | else-place-pairs-via-then-place-pairs+then-pairs-place+else-pairs-place-2 w ↦ w.if-pairs-place-2.false l
      | else-place-pairs-via-then-place-pairs+else-pairs-place w ↦ w.if-pairs-place.false s
      | else-place-pairs-via-else-place-pairs w ↦ omega arith
    ]

pub returns-then-pairs-place-2-clause-forward : goal.returns-then-pairs-place-2-clause-forward
returns-then-pairs-place-2-clause-forward c =
    sym (pair_is_found c.args.pairs.now c.requires.in_order _ c.args.small c.args.large (joins_forward c.args.small c.args.large c.requires.order)
    c.partition_point-place.result no_pair c.if-place-pairs.true c.if-pairs-place.true c.if-pairs-place-2.true)

pub returns-then-pairs-place-2-clause-backward : goal.returns-then-pairs-place-2-clause-backward
returns-then-pairs-place-2-clause-backward c =
    sym (pair_is_found c.args.pairs.now c.requires.in_order _ c.args.small c.args.large (joins_backward c.args.small c.args.large c.requires.order)
    c.partition_point-place.result no_pair c.if-place-pairs.true c.if-pairs-place.true c.if-pairs-place-2.true)

pub returns-else-place-pairs-clause-forward : goal.returns-else-place-pairs-clause-forward
returns-else-place-pairs-clause-forward c =
    sym (pair_is_absent c.args.pairs.now c.requires.in_order _ c.args.small c.args.large (joins_forward c.args.small c.args.large c.requires.order)
    c.partition_point-place.result no_pair c.partition_point-place.ensures.bound (part c) (other c))

pub returns-else-place-pairs-clause-backward : goal.returns-else-place-pairs-clause-backward
returns-else-place-pairs-clause-backward c =
    sym (pair_is_absent c.args.pairs.now c.requires.in_order _ c.args.small c.args.large (joins_backward c.args.small c.args.large c.requires.order)
    c.partition_point-place.result no_pair c.partition_point-place.ensures.bound (part c) (other c))

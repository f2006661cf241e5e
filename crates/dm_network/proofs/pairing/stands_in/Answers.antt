use Rattle.std.proofs.Common.{rules, ap, get_or, arith}
use Rattle.std.proofs.lemmas.Bool.{ltb-true, both_ways, true_from_ne_false}
use Rattle.std.proofs.lemmas.List.Sorted.{IsPartitionPoint-from_clause}
use Rattle.dm_network.specs.Net.{no_pair}
use Rattle.dm_network.specs.Inside.Flat.{stands_before}
use Rattle.dm_network.proofs.TwoWay.{do_not_fall_partitioned, contained_there, contained_nowhere, pairs_equal, same_pair}
use Rattle.dm_network.proofs.pairing.stands_in.Goals as goal

pub returns-then-place-pairs : goal.returns-then-place-pairs
returns-then-place-pairs c =
    let equal = pairs_equal (get_or c.args.pairs.now c.partition_point-place.result no_pair) c.args.p.now c.eq.result c.eq.ensures in
    let part = IsPartitionPoint-from_clause (λ x. stands_before x c.args.p.now.small c.args.p.now.large) c.args.pairs.now c.partition_point-place.result
    c.partition_point-place.ensures.partitioned
    (do_not_fall_partitioned c.args.pairs.now c.requires c.args.p.now.small c.args.p.now.large)
    (λ a r q h. search rules) in (
      (λ t. let e = equal.0 t in
          contained_there c.args.pairs.now c.requires c.args.p.now c.partition_point-place.result no_pair c.if-place-pairs.true (ap (λ x. x.small) e) (ap (λ x. x.large) e)),
      (λ h. true_from_ne_false c.eq.result (λ f.
          contained_nowhere c.args.pairs.now c.requires c.args.p.now c.partition_point-place.result no_pair
          c.partition_point-place.ensures.bound part
          (λ lt s l. both_ways c.eq.result f (equal.1 (same_pair (get_or c.args.pairs.now c.partition_point-place.result no_pair) c.args.p.now s l))) h)),
    )

pub returns-else-place-pairs : goal.returns-else-place-pairs
returns-else-place-pairs c =
    let part = IsPartitionPoint-from_clause (λ x. stands_before x c.args.p.now.small c.args.p.now.large) c.args.pairs.now c.partition_point-place.result
    c.partition_point-place.ensures.partitioned
    (do_not_fall_partitioned c.args.pairs.now c.requires c.args.p.now.small c.args.p.now.large)
    (λ a r q h. search rules) in (
      (λ t. absurd (omega (arith, ltb-true c.partition_point-place.result _ t))),
      (λ h. absurd (contained_nowhere c.args.pairs.now c.requires c.args.p.now c.partition_point-place.result no_pair
          c.partition_point-place.ensures.bound part (λ lt s l. absurd (omega arith)) h)),
    )

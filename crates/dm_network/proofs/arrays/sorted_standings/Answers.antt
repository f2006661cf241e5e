use Rattle.std.proofs.Common.{rules}
use Rattle.std.proofs.lemmas.List.Sorted.{IsNonDecreasingBy-from_sort_by_key, answers_always}
use Rattle.dm_network.proofs.Keys.{keys_do_not_fall}
use Rattle.dm_network.proofs.Arraying.{stable_by_stop}
use Rattle.dm_network.proofs.arrays.sorted_standings.Goals as goal

pub returns : goal.returns
returns c = record {
  same = c.sort_by_key.ensures.permutation;
  ascending = keys_do_not_fall (λ s. s.stop.0) c.sort_by_key.new.self.items
      (IsNonDecreasingBy-from_sort_by_key (λ s. s.stop.0) _ c.in_ok-sort_by_key.ensures.sorted (λ a r q k. search rules));
  stable = stable_by_stop c.args.standings.items c.sort_by_key.new.self.items
      (c.in_ok-sort_by_key.ensures.stable (λ s. s.stop.0) (answers_always _ _ _ (λ f a r q k. search rules)));
}

use Rattle.std.proofs.lemmas.List.Sorted.{IsNonDecreasingBy-from_sort}
use Rattle.dm_network.proofs.Doubles.{double_through}
use Rattle.dm_network.proofs.records.least_double.Goals as goal

pub first_tie-requires : goal.first_tie-requires
first_tie-requires c =
    rw c.deref.ensures.value (IsNonDecreasingBy-from_sort (λ x. x) c.sort_unstable.new.self.items c.sort_unstable.ensures.sorted)

pub returns : goal.returns
returns c = double_through c.args.ids.items c.sort_unstable.new.self.items c.sort_unstable.ensures.permutation c.first_tie.result (rw (← c.deref.ensures.value) c.first_tie.ensures)

use Rattle.std.proofs.Common.{ap, subst, ◌∙◌, map}
use Rattle.std.specs.List.Sorted.{IsPermutation}
use Rattle.std.proofs.lemmas.List.Sorted.{IsNonDecreasingBy-from_sort}
use Rattle.dm_schedule.specs.Inside.Keys.{scheduled_of}
use Rattle.dm_schedule.proofs.Keys.{keys_schedule}
use Rattle.dm_schedule.proofs.schedule.schedule_of.Goals as goal

pub returns : goal.returns
returns c =
    keys_schedule c.args.net.now c.reveal.ensures.within.events c.sort_unstable.new.self.items c.in_ok-schedule.schedule.items
    (subst (λ xs. IsPermutation xs c.sort_unstable.new.self.items) c.in_ok-keys.ensures c.sort_unstable.ensures.permutation)
    (IsNonDecreasingBy-from_sort (λ x. x) c.sort_unstable.new.self.items c.sort_unstable.ensures.sorted)
    (c.in_ok-schedule.ensures ∙ ap (map scheduled_of) c.deref.ensures.value)

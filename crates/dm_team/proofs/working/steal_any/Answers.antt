use Rattle.std.proofs.Common.{◌≡◌, ◌<◌, List, length, set, ap, subst, arith}
use Rattle.std.proofs.lemmas.List.{length-map}
use Rattle.dm_deques.specs.Deques.{TallyValue}
use Rattle.dm_deques.specs.Sharing.{deque_of}
use Rattle.dm_team.specs.Accounts.{Path}
use Rattle.dm_team.specs.Inside.Workers.{HasStolen}
use Rattle.dm_team.proofs.Stealing.{stolen_at}
use Rattle.dm_team.proofs.working.steal_any.Goals as goal

pub returns-in-Some-clause-stolen : goal.returns-in-Some-clause-stolen
returns-in-Some-clause-stolen g c =
    let same : c.loop-place.tallies.items ≡ c.args.tallies.now.items = c.loop-place.invariant in
    let below : c.loop-place.place < length c.loop-place.tallies.items =
    omega (arith, c.loop-place-test.true, ap length c.requires.deques, length-map c.args.tallies.now.items (deque_of {T = Path}), ap length same) in (
      c.in-Some.ensures.taken.0,
      subst (λ (ts : List (TallyValue Path)). HasStolen ts (set c.loop-place.tallies.items c.loop-place.place c.steal.new.tally) c.in-Some.path) same
          (stolen_at c.loop-place.tallies.items c.loop-place.place c.index_mut.result.now c.steal.new.tally c.in-Some.path below c.index_mut.ensures.value c.in-Some.ensures.taken.1),
    )

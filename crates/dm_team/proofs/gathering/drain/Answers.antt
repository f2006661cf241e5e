use Rattle.std.proofs.Common.{arith, subst}
use Rattle.dm_deques.specs.Deques.{TallyValue}
use Rattle.dm_team.specs.Accounts.{Path}
use Rattle.dm_team.proofs.Draining.{Taking, all_of_it}
use Rattle.dm_team.proofs.gathering.drain.Goals as goal

pub returns-clause-drained : goal.returns-clause-drained
returns-clause-drained g c =
    all_of_it c.args.owner.now c.loop-path.owner c.count-none.new.self c.args.given_up.now.items c.loop-path.given_up.items _ _ c.loop-path._path c.requires c.count-many.ensures.counted.2
    (omega (arith, c.count-many.ensures.counted.1, c.loop-path-test.false))
    (subst (λ (o : TallyValue Path). Taking o c.loop-path.owner c.args.given_up.now.items c.loop-path.given_up.items c.loop-path._path) c.count-many.ensures.same c.loop-path.invariant)
    c.count-none.ensures.same c.count-none.ensures.counted.2

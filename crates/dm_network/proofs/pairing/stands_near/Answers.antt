use Rattle.std.proofs.Common.{ap, get_or, refl}
use Rattle.dm_network.specs.Net.{no_pair}
use Rattle.dm_network.proofs.TwoWay.{contained_there, pairs_equal}
use Rattle.dm_network.proofs.pairing.stands_near.Goals as goal

pub returns-then-eq : goal.returns-then-eq
returns-then-eq c =
    let equal = pairs_equal (get_or c.args.pairs.now c.args.near no_pair) c.args.p.now c.eq.result c.eq.ensures in
    let e = equal.0 c.if-eq.true in (
      (λ _. contained_there c.args.pairs.now c.requires c.args.p.now c.args.near no_pair c.if-near-pairs.true (ap (λ x. x.small) e) (ap (λ x. x.large) e)),
      (λ _. refl),
    )

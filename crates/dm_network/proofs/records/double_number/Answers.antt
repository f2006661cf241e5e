use Rattle.std.proofs.Common.{MatchOption, subst}
use Rattle.dm_network.specs.Build.{IsLeastDouble, NoneStandsTwice}
use Rattle.dm_network.proofs.records.double_number.Goals as goal

pub returns : goal.returns
returns g c =
    subst (λ numbers. MatchOption c.least_double.result (NoneStandsTwice numbers) (λ id. IsLeastDouble numbers id)) c.in_ok-numbers.ensures c.least_double.ensures

use Rattle.std.proofs.Common.{ℕ, List, subst}
use Rattle.dm_network.specs.Build.{NoneStandsTwice, IsLeastDouble}
use Rattle.dm_check_parts.proofs.Together.{apart_from, arrivals_once, changes_once}
use Rattle.dm_check_parts.proofs.claiming.are_apart.Goals as goal

pub returns-in-Some : goal.returns-in-Some
returns-in-Some c = λ apart.
    arrivals_once c.args.parts.now c.requires apart c.in-Some._double
    (subst (λ (ids : List ℕ). IsLeastDouble ids c.in-Some._double) c.in-Ok.ensures c.in-Some.ensures).twice

pub returns-in-Some-least_double : goal.returns-in-Some-least_double
returns-in-Some-least_double c = λ apart.
    changes_once c.args.parts.now c.requires apart c.in-Some-least_double._double
    (subst (λ (ids : List ℕ). IsLeastDouble ids c.in-Some-least_double._double) c.in-Ok-changes_in.ensures c.in-Some-least_double.ensures).twice

pub returns : goal.returns
returns c =
    apart_from c.args.parts.now (subst NoneStandsTwice c.in-Ok.ensures c.in_default.ensures) (subst NoneStandsTwice c.in-Ok-changes_in.ensures c.in_default-least_double.ensures)

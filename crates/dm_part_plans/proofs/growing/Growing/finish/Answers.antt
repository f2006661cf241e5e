use Rattle.std.proofs.Common.{◌≡◌, Some, refl, subst}
use Rattle.dm_part_plans.specs.Inside.Nodes.{IsLeastOf}
use Rattle.dm_part_plans.proofs.Trees.{part_is_true}
use Rattle.dm_part_plans.proofs.growing.Growing.finish.Goals as goal

pub returns-clause-part : goal.returns-clause-part
returns-clause-part c =
    let nodes = c.args.self.nodes.items in
    let some : c.args.self.least ≡ Some c.in_ok-bound.bound = cc in
    λ task share tree least.
    part_is_true task c.args.share nodes c.in_ok-bound.bound _ share tree (subst (IsLeastOf nodes) some least) refl c.from_vec.ensures refl

use Rattle.std.proofs.Common.{◌≡◌, refl}
use Rattle.dm_part_plans.proofs.Together.{plan_is_true}
use Rattle.dm_part_plans.proofs.solving.put_together.Goals as goal

pub returns-clause-parts : goal.returns-clause-parts
returns-clause-parts c =
    let g = c.args.gathered in
    let parts : c.from_vec.result ≡ g.parts.items = cc in
    λ task chosen gathered others.
    plan_is_true task g.claims.arrivals.items g.claims.changes.items g.parts.items g.bound g.nodes g.ids c.args.rest c.args.chosen.choices c.args.chosen.cost _
    chosen gathered others refl refl parts refl refl c.mark_of.ensures

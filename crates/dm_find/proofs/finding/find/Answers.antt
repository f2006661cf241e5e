use Rattle.std.proofs.Common.{◌+◌, ◌^◌, ◌≤◌, length, subst}
use Rattle.dm_rows.specs.Decide.{free_choices_of}
use Rattle.dm_desk.specs.declared.searches.Search.{Search}
use Rattle.dm_desk.specs.Planning.{budget_of}
use Rattle.dm_find.proofs.Solving.{enough_nodes}
use Rattle.dm_find.proofs.finding.find.Goals as goal

pub returns-in-Ok-clause-enough : goal.returns-in-Ok-clause-enough
returns-in-Ok-clause-enough g c = λ terms nodes.
    let asked = c.args.request.now in
    let k = length (free_choices_of asked.net.now asked.snapshot.now.rows) in
    enough_nodes asked.net.now asked.snapshot.now.rows asked.penalty c.in-Plan.budget c.in-Ok.plan c.reveal.ensures.network c.requires.sized c.in-Ok.ensures.plan
    (subst (λ (asked : Search). 2 ^ (k + 1) ≤ budget_of asked + 1) c.in-Plan.is nodes)

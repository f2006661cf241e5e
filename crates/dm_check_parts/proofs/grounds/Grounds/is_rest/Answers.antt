use Rattle.std.proofs.Common.{◌≡◌, ◌+◌, List, refl, subst, ◌∙◌}
use Rattle.std.specs.Prelude.{sum_by}
use Rattle.dm_rows.specs.declared.messages.Decision.{Decision}
use Rattle.dm_tree.specs.Relaxed.{IsRelaxedLeast, relaxed_cost_of}
use Rattle.dm_parts.specs.declared.parts.Part.{Part}
use Rattle.dm_parts.specs.Shares.{within}
use Rattle.dm_check_plans.specs.RelaxedProblems.{HasRelaxedCycle, times_of}
use Rattle.dm_check_parts.proofs.Together.{rest_told, no_rest}
use Rattle.dm_check_parts.proofs.grounds.Grounds.is_rest.Goals as goal

pub returns-in-Ok : goal.returns-in-Ok
returns-in-Ok c =
    let g = c.args.self.now in
    let x = times_of c.solve.new.self in
    let root = c.solve.ensures.path ∙ c.requires.path in
    rest_told g.net.now g.rows.now g.penalty g.budget c.args.parts.now x
    (subst (λ (p : List Decision). IsRelaxedLeast g.net.now g.rows.now p x) root c.in-Ok.ensures.solved.least)
    c.cost_beside.result c.args.rest _ c.requires.apart
    (subst
    (λ (p : List Decision). c.cost_beside.result + sum_by (λ (part : Part). relaxed_cost_of (within g.net.now part.share) g.rows.now p x g.penalty) c.args.parts.now
    ≡ relaxed_cost_of g.net.now g.rows.now p x g.penalty) root c.cost_beside.ensures)
    refl

pub returns-in-Err : goal.returns-in-Err
returns-in-Err c =
    let g = c.args.self.now in
    no_rest g.net.now g.rows.now g.penalty g.budget c.args.parts.now c.reveal.ensures.network
    (subst (λ (p : List Decision). HasRelaxedCycle g.net.now g.rows.now p) c.requires.path c.in-Err.ensures.cyclic) c.args.rest

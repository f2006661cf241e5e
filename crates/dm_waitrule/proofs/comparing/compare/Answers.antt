use Rattle.std.proofs.Common.{ap, ◌∙◌}
use Rattle.dm_propagate.specs.Engine.{times_of}
use Rattle.dm_propagate.proofs.Following.{engine_least}
use Rattle.dm_waitrule.specs.Rules.{differences_to}
use Rattle.dm_waitrule.proofs.Bounded.{compares}
use Rattle.dm_waitrule.proofs.comparing.compare.Goals as goal

pub returns-clause-compares : goal.returns-clause-compares
returns-clause-compares c = λ budget is.
    compares c.args.net.now c.reveal.ensures.network c.args.snapshot.now.rows c.requires.sized c.requires.no_cycle c.args.rule c.args.penalty budget
    c.in_ok-engine.engine.rows c.in_ok-engine.ensures.ruled (record { choices = c.from_vec.result; cost = c.cost-cost.result; plan = c.args.plan })
    (c.from_vec.ensures ∙ c.in_ok-choices.ensures ∙ ap (differences_to c.args.net.now c.args.snapshot.now.rows) c.rows.ensures)
    (record {
      times = times_of c.in_ok-engine.engine;
      least = engine_least c.args.net.now c.in_ok-engine.engine c.reveal.ensures.network.formed.ends_are_known c.in_ok-engine.ensures.engine;
      cost = c.cost-cost.ensures.cost;
    })
    is

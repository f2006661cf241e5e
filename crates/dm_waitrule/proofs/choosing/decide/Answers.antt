use Rattle.std.proofs.lemmas.Bool.{both_ways}
use Rattle.dm_propagate.specs.Engine.{times_of}
use Rattle.dm_propagate.proofs.Following.{engine_least}
use Rattle.dm_waitrule.specs.Rules.{limit_of}
use Rattle.dm_waitrule.proofs.Deciding.{decided_in_time, decided_late}
use Rattle.dm_waitrule.proofs.choosing.decide.Goals as goal

pub returns-then-is_in_time-clause-decides : goal.returns-then-is_in_time-clause-decides
returns-then-is_in_time-clause-decides c =
    decided_in_time c.args.net.now (limit_of c.args.rule) c.args.engine.now.rows c.args.act (times_of c.args.engine.now)
    (engine_least c.args.net.now c.args.engine.now c.reveal.ensures.network.formed.ends_are_known c.requires.engine)
    c.keep.new.engine.rows (c.is_in_time.ensures.0 c.if-is_in_time.true) c.keep.ensures.kept

pub returns-else-is_in_time-clause-decides : goal.returns-else-is_in_time-clause-decides
returns-else-is_in_time-clause-decides c =
    decided_late c.args.net.now (limit_of c.args.rule) c.args.engine.now.rows c.args.act (times_of c.args.engine.now)
    (engine_least c.args.net.now c.args.engine.now c.reveal.ensures.network.formed.ends_are_known c.requires.engine)
    (λ early. both_ways c.is_in_time.result c.if-is_in_time.false (c.is_in_time.ensures.1 early))

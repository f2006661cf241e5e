use Rattle.std.proofs.Common.{take}
use Rattle.dm_propagate.specs.Engine.{IsEngineOf}
use Rattle.dm_waitrule.specs.Rules.{Follows, limit_of}
use Rattle.dm_waitrule.proofs.choosing.decide_each.Given as goal

abbrev pub invariant-loop-act : goal.invariant-loop-act
invariant-loop-act l =
    record {
      engine : IsEngineOf l.net l.engine;
      follows : Follows l.net (limit_of l.rule) (take l.act-index l.order) l.fn.engine.rows l.engine.rows;
    }

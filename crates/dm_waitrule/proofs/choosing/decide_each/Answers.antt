use Rattle.std.proofs.Common.{sym, subst, take, get_or, ℕ, List}
use Rattle.std.proofs.lemmas.List.{take_more}
use Rattle.dm_waitrule.specs.Rules.{Follows, limit_of}
use Rattle.dm_waitrule.proofs.Ruled.{one_more}
use Rattle.dm_waitrule.proofs.choosing.decide_each.Goals as goal

pub loop-act-preserved : goal.loop-act-preserved
loop-act-preserved c = record {
  engine = c.decide.ensures.engine;
  follows = subst (λ (xs : List ℕ). Follows c.args.net.now (limit_of c.args.rule) xs c.args.engine.now.rows c.decide.new.engine.rows)
      (sym (take_more c.args.order.now c.loop-act.act-index 0 c.loop-act-test.true))
      (one_more c.args.net.now (limit_of c.args.rule) (take c.loop-act.act-index c.args.order.now) (get_or c.args.order.now c.loop-act.act-index 0)
      c.args.engine.now.rows c.loop-act.engine.rows c.decide.new.engine.rows c.loop-act.invariant.follows c.decide.ensures.decides);
}

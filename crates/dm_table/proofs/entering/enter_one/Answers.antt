use Rattle.std.proofs.Common.{◌≡◌, sym, ap, subst}
use Rattle.dm_rows.specs.Refuse.{PassesAtOnce}
use Rattle.dm_rows.specs.Resolve.{after, after_change, after_named}
use Rattle.dm_rows.specs.Rows.{RowsValue}
use Rattle.dm_table.proofs.Tried.{cycle_within, tried_accepted, tried_rows, tried_refused}
use Rattle.dm_table.proofs.entering.enter_one.Given as given
use Rattle.dm_table.proofs.entering.enter_one.Goals as goal
use Rattle.dm_table.proofs.entering.enter_one.Goals.{After-last_cycle}

-- the rows that were tried are those after the message
named : (g : given.Over) (c : goal.After-last_cycle g) → after_change c.args.engine.now.rows c.in-Ok.change ≡ after c.args.net.now c.args.engine.now.rows c.args.message.now
named g c = sym (ap (after_named c.args.engine.now.rows) c.in-Ok.ensures.named)

-- and nothing refuses the message at once
passes : (g : given.Over) (c : goal.After-last_cycle g) → PassesAtOnce c.args.net.now c.args.engine.now.rows c.args.message.now
passes g c = subst (λ (v : RowsValue). PassesAtOnce c.args.net.now v c.args.message.now) c.rows.ensures c.in-Ok.ensures.passes

pub answer-requires-clause-cycle : goal.answer-requires-clause-cycle
answer-requires-clause-cycle g c =
    let tried = (goal.at.answer-requires-clause-cycle g c).After-last_cycle in
    cycle_within c.args.net.now c.args.entries _ c.args.engine.now c.try_change-outcome.new.engine c.try_change-outcome.result c.requires.engine c.try_change-outcome.ensures.tried
    c.args.message.now (named g tried) (passes g tried) c.last_cycle.result.now c.last_cycle.ensures

pub returns-clause-rows : goal.returns-clause-rows
returns-clause-rows g c =
    let tried = (goal.at.returns-clause-rows g c).After-last_cycle in
    tried_rows c.args.net.now c.args.entries _ c.args.engine.now c.try_change-outcome.new.engine c.try_change-outcome.result c.requires.engine c.try_change-outcome.ensures.tried
    c.args.message.now (named g tried) (passes g tried) c.last_cycle.result.now c.last_cycle.ensures c.answer.result c.answer.ensures.accepted c.answer.ensures.made

pub returns-clause-accepted : goal.returns-clause-accepted
returns-clause-accepted g c =
    let tried = (goal.at.returns-clause-accepted g c).After-last_cycle in
    tried_accepted c.args.net.now c.args.entries _ c.args.engine.now c.try_change-outcome.new.engine c.try_change-outcome.result c.requires.engine c.try_change-outcome.ensures.tried
    c.args.message.now (named g tried) (passes g tried) c.last_cycle.result.now c.last_cycle.ensures c.answer.result c.answer.ensures.accepted

pub returns-clause-refused : goal.returns-clause-refused
returns-clause-refused g c =
    let tried = (goal.at.returns-clause-refused g c).After-last_cycle in
    tried_refused c.args.net.now c.args.entries _ c.args.engine.now c.try_change-outcome.new.engine c.try_change-outcome.result c.requires.engine c.try_change-outcome.ensures.tried
    c.args.message.now (named g tried) (passes g tried) c.last_cycle.result.now c.last_cycle.ensures c.answer.result c.answer.ensures.refused

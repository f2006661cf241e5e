use Rattle.std.proofs.Common.{◌≡◌, fold, List, sym, ap, subst, ◌∙◌}
use Rattle.std.specs.Prelude.{Option, option_map}
use Rattle.dm_rows.specs.declared.messages.Change.TheVariants.{Adopted}
use Rattle.dm_rows.specs.declared.messages.Flip.{Flip}
use Rattle.dm_rows.specs.declared.messages.Message.TheVariants.{Adopt}
use Rattle.dm_rows.specs.Refuse.{PassesAtOnce}
use Rattle.dm_rows.specs.Resolve.{after, after_flip, after_named}
use Rattle.dm_rows.specs.Rows.{RowsValue}
use Rattle.dm_table.proofs.Tried.{cycle_within, tried_accepted, tried_rows, tried_refused}
use Rattle.dm_table.proofs.entering.enter_list.Given as given
use Rattle.dm_table.proofs.entering.enter_list.Goals as goal
use Rattle.dm_table.proofs.entering.enter_list.Goals.{After-last_cycle}

-- the rows that were tried are those after the list
named : (g : given.Over) (c : goal.After-last_cycle g) → fold after_flip c.args.engine.now.rows c.deref.result.now ≡ after c.args.net.now c.args.engine.now.rows (Adopt c.args.decisions.now)
named g c =
    ap (λ (fs : List Flip). fold after_flip c.args.engine.now.rows fs) c.deref.ensures.value
    ∙ sym (ap (λ (o : Option (List Flip)). after_named c.args.engine.now.rows (option_map (λ fs. Adopted fs) o)) c.in-Ok.ensures.named)

-- and nothing refuses the list at once
passes : (g : given.Over) (c : goal.After-last_cycle g) → PassesAtOnce c.args.net.now c.args.engine.now.rows (Adopt c.args.decisions.now)
passes g c = subst (λ (v : RowsValue). PassesAtOnce c.args.net.now v (Adopt c.args.decisions.now)) c.rows.ensures c.in-Ok.ensures.passes

pub answer-requires-clause-cycle : goal.answer-requires-clause-cycle
answer-requires-clause-cycle g c =
    let tried = (goal.at.answer-requires-clause-cycle g c).After-last_cycle in
    cycle_within c.args.net.now c.args.entries _ c.args.engine.now c.try_flips-outcome.new.engine c.try_flips-outcome.result c.requires.engine c.try_flips-outcome.ensures.tried
    (Adopt c.args.decisions.now) (named g tried) (passes g tried) c.last_cycle.result.now c.last_cycle.ensures

pub returns-in-Ok-clause-rows : goal.returns-in-Ok-clause-rows
returns-in-Ok-clause-rows g c =
    let tried = (goal.at.returns-in-Ok-clause-rows g c).After-last_cycle in
    tried_rows c.args.net.now c.args.entries _ c.args.engine.now c.try_flips-outcome.new.engine c.try_flips-outcome.result c.requires.engine c.try_flips-outcome.ensures.tried
    (Adopt c.args.decisions.now) (named g tried) (passes g tried) c.last_cycle.result.now c.last_cycle.ensures c.answer.result c.answer.ensures.accepted c.answer.ensures.made

pub returns-in-Ok-clause-accepted : goal.returns-in-Ok-clause-accepted
returns-in-Ok-clause-accepted g c =
    let tried = (goal.at.returns-in-Ok-clause-accepted g c).After-last_cycle in
    tried_accepted c.args.net.now c.args.entries _ c.args.engine.now c.try_flips-outcome.new.engine c.try_flips-outcome.result c.requires.engine c.try_flips-outcome.ensures.tried
    (Adopt c.args.decisions.now) (named g tried) (passes g tried) c.last_cycle.result.now c.last_cycle.ensures c.answer.result c.answer.ensures.accepted

pub returns-in-Ok-clause-refused : goal.returns-in-Ok-clause-refused
returns-in-Ok-clause-refused g c =
    let tried = (goal.at.returns-in-Ok-clause-refused g c).After-last_cycle in
    tried_refused c.args.net.now c.args.entries _ c.args.engine.now c.try_flips-outcome.new.engine c.try_flips-outcome.result c.requires.engine c.try_flips-outcome.ensures.tried
    (Adopt c.args.decisions.now) (named g tried) (passes g tried) c.last_cycle.result.now c.last_cycle.ensures c.answer.result c.answer.ensures.refused

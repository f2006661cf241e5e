use Rattle.dm_propagate.proofs.Around.{in_row_below, out_row_below, let_go_around}
use Rattle.dm_propagate.proofs.turning.let_go_around.Goals as goal

pub let_go-requires-clause-are_activities : goal.let_go-requires-clause-are_activities
let_go-requires-clause-are_activities c = in_row_below c.args.day.now.net.now c.args.event c.args.into.now c.requires.into

pub let_go-requires-2-clause-are_activities : goal.let_go-requires-2-clause-are_activities
let_go-requires-2-clause-are_activities c = out_row_below c.args.day.now.net.now c.args.event c.args.out.now c.requires.out

pub returns-clause-gone : goal.returns-clause-gone
returns-clause-gone c =
    let_go_around c.args.day.now.net.now c.args.day.now.rows.now c.args.event c.args.into.now c.args.out.now c.requires.into c.requires.out
    c.args.priced.now.live c.let_go.new.priced.live c.let_go-2.new.priced.live c.let_go.ensures.gone c.let_go-2.ensures.gone

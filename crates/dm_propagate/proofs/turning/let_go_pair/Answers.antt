use Rattle.std.proofs.Common.{true}
use Rattle.dm_propagate.proofs.Around.{let_go_at_pair}
use Rattle.dm_propagate.proofs.turning.let_go_pair.Goals as goal

pub returns-clause-gone : goal.returns-clause-gone
returns-clause-gone g c =
    let_go_at_pair c.args.day.now.net.now c.args.day.now.rows.now c.args.pair true c.rows_of_pair.result.0.now c.rows_of_pair.result.1.now
    c.rows_of_pair.ensures.small c.rows_of_pair.ensures.large
    c.args.priced.now.live c.let_go.new.priced.live c.let_go-2.new.priced.live c.let_go.ensures.gone c.let_go-2.ensures.gone

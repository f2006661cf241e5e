use Rattle.dm_propagate.proofs.Around.{let_go_alone, decides_about}
use Rattle.dm_propagate.proofs.turning.let_go_by_flip.Goals as goal

pub returns-in-Keep-clause-gone : goal.returns-in-Keep-clause-gone
returns-in-Keep-clause-gone g c =
    let_go_alone c.args.day.now.net.now c.args.day.now.rows.now c.in-Keep.act c.args.flip (decides_about c.args.day.now.net.now c.args.flip c.in-Keep.act c.in-Keep.is)
    c.args.priced.now.live c.let_go.new.priced.live c.let_go.ensures.gone

use Rattle.std.proofs.Common.{ap, ◌∙◌}
use Rattle.dm_rows.specs.Inside.Standings.{with_pair}
use Rattle.dm_rows.specs.Rows.{RowsValue}
use Rattle.dm_rows.proofs.Standings.{pair_is_set}
use Rattle.dm_rows.proofs.rows.Rows.decide_pair.Goals as goal

pub returns : goal.returns
returns c =
    pair_is_set c.self.inside.event_delays.items c.self.inside.act_delays.items c.self.inside.standings.items
    c.self.inside.changes.items c.self.inside.pairs.items c.self.inside.clock c.args.pair
    (record { first = c.args.first; locked = c.args.locked })
    ∙ ap (λ (rows : RowsValue). with_pair rows c.args.pair c.args.first c.args.locked) c.self.view_is

use Rattle.std.proofs.Common.{ap, ◌∙◌}
use Rattle.dm_rows.specs.Inside.Standings.{with_change}
use Rattle.dm_rows.specs.Rows.{RowsValue}
use Rattle.dm_rows.proofs.Standings.{change_is_set}
use Rattle.dm_rows.proofs.rows.Rows.decide_change.Goals as goal

pub returns : goal.returns
returns c =
    change_is_set c.self.inside.event_delays.items c.self.inside.act_delays.items c.self.inside.standings.items
    c.self.inside.changes.items c.self.inside.pairs.items c.self.inside.clock c.args.act
    (record { first = c.args.first; locked = c.args.locked })
    ∙ ap (λ (rows : RowsValue). with_change rows c.args.act c.args.first c.args.locked) c.self.view_is

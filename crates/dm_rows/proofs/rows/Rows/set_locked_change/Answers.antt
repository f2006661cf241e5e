use Rattle.std.proofs.Common.{sym, ◌∙◌}
use Rattle.dm_rows.proofs.Standings.{change_locked}
use Rattle.dm_rows.proofs.rows.Rows.set_locked_change.Goals as goal

pub returns : goal.returns
returns c =
    c.decide_change.ensures ∙ change_locked c.args.self.now c.args.act c.kept-kept.result c.args.locked (sym c.kept-kept.ensures)

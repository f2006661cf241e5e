use Rattle.std.proofs.Common.{sym, ◌∙◌}
use Rattle.dm_rows.proofs.Standings.{change_decided}
use Rattle.dm_rows.proofs.rows.Rows.set_kept.Goals as goal

pub returns : goal.returns
returns c =
    c.decide_change.ensures ∙ change_decided c.args.self.now c.args.act c.args.kept c.locked_change-locked.result (sym c.locked_change-locked.ensures)

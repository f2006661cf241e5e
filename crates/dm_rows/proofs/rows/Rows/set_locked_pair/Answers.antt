use Rattle.std.proofs.Common.{sym, ◌∙◌}
use Rattle.dm_rows.proofs.Standings.{pair_locked}
use Rattle.dm_rows.proofs.rows.Rows.set_locked_pair.Goals as goal

pub returns : goal.returns
returns c =
    c.decide_pair.ensures ∙ pair_locked c.args.self.now c.args.pair c.small_first-small.result c.args.locked (sym c.small_first-small.ensures)

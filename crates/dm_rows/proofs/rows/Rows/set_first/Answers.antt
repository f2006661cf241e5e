use Rattle.std.proofs.Common.{sym, ◌∙◌}
use Rattle.dm_rows.proofs.Standings.{pair_decided}
use Rattle.dm_rows.proofs.rows.Rows.set_first.Goals as goal

pub returns : goal.returns
returns c =
    c.decide_pair.ensures ∙ pair_decided c.args.self.now c.args.pair c.args.small c.locked_pair-locked.result (sym c.locked_pair-locked.ensures)

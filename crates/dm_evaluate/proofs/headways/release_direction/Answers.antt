use Rattle.std.proofs.Common.{false}
use Rattle.dm_evaluate.proofs.Directions.{settled_from, direction_turned}
use Rattle.dm_network.proofs.EventRows.{row_below}
use Rattle.dm_evaluate.proofs.headways.release_direction.Goals as goal

pub release_each-requires-clause-are_activities : goal.release_each-requires-clause-are_activities
release_each-requires-clause-are_activities g c = row_below c.args.net.now c.args.tail c.out_row-row.result.now c.out_row-row.ensures.places

pub returns-clause-turns : goal.returns-clause-turns
returns-clause-turns g c =
    direction_turned c.args.net.now c.args.pair c.args.tail c.out_row-row.result.now c.out_row-row.ensures.places false c.args.priced.now c.release_each.new.priced
    c.settle_watched.new.self c.release_each.ensures.turns (settled_from c.release_each.new.priced c.settle_watched.new.self c.settle_watched.ensures.unchanged)

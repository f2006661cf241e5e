use Rattle.std.proofs.Common.{List, ℕ, true, sym, subst, ◌∙◌}
use Rattle.dm_network.specs.Held.{is_held, IsCycleOf}
use Rattle.dm_evaluate.specs.Inside.Moves.{set_where}
use Rattle.dm_paths.specs.Decisions.{is_directed}
use Rattle.dm_evaluate.proofs.Directions.{settled_from, direction_turned, direction_stays, direction_cycle}
use Rattle.dm_network.proofs.EventRows.{row_below}
use Rattle.dm_evaluate.proofs.headways.hold_direction.Goals as goal

pub hold_each-requires-clause-are_activities : goal.hold_each-requires-clause-are_activities
hold_each-requires-clause-are_activities g c = row_below c.args.net.now c.args.tail c.out_row-row.result.now c.out_row-row.ensures.places

pub release_each-requires-clause-are_activities : goal.release_each-requires-clause-are_activities
release_each-requires-clause-are_activities g c = row_below c.args.net.now c.args.tail c.out_row-row.result.now c.out_row-row.ensures.places

pub returns-in-Ok-clause-turns : goal.returns-in-Ok-clause-turns
returns-in-Ok-clause-turns g c =
    direction_turned c.args.net.now c.args.pair c.args.tail c.out_row-row.result.now c.out_row-row.ensures.places true c.args.priced.now c.hold_each.new.priced
    c.settle_watched.new.self c.in-Ok.ensures.turns (settled_from c.hold_each.new.priced c.settle_watched.new.self c.settle_watched.ensures.unchanged)

pub returns-in-Err-clause-stays : goal.returns-in-Err-clause-stays
returns-in-Err-clause-stays g c =
    direction_stays c.args.net.now c.args.pair c.args.tail c.out_row-row.result.now c.out_row-row.ensures.places c.args.priced.now c.hold_each.new.priced
    c.in-Err.ensures.refused c.requires.off c.release_each.new.priced c.settle_watched-in-Err.new.self c.release_each.ensures.turns
    (settled_from c.release_each.new.priced c.settle_watched-in-Err.new.self c.settle_watched-in-Err.ensures.unchanged)

pub returns-in-Err-clause-cycle : goal.returns-in-Err-clause-cycle
returns-in-Err-clause-cycle g c =
    let same = (settled_from c.release_each.new.priced c.settle_watched-in-Err.new.self c.settle_watched-in-Err.ensures.unchanged).cycle ∙ c.release_each.ensures.cycle_stays in
    subst (λ (cycle : List ℕ). IsCycleOf c.args.net.now (set_where (is_directed c.args.net.now c.args.pair c.args.tail) true (is_held c.args.priced.now.live.given.held)) cycle) (sym same)
    (direction_cycle c.args.net.now c.args.pair c.args.tail c.out_row-row.result.now c.out_row-row.ensures.places c.args.priced.now c.hold_each.new.priced
    c.in-Err.ensures.refused c.requires.off)

use Rattle.std.proofs.Common.{ap, ◌∙◌}
use Rattle.dm_network.specs.Net.{places_out_of}
use Rattle.dm_network.specs.declared.parts.Pair.{Pair}
use Rattle.dm_propagate.proofs.Around.{out_row_below, small_below, large_below}
use Rattle.dm_propagate.proofs.turning.rows_of_pair.Goals as goal

pub out_row-requires : goal.out_row-requires
out_row-requires g c = small_below c.args.day.now.net.now c.reveal.ensures.network c.args.pair c.requires c.pair.result.now c.pair.ensures

pub out_row-requires-2 : goal.out_row-requires-2
out_row-requires-2 g c = large_below c.args.day.now.net.now c.reveal.ensures.network c.args.pair c.requires c.pair.result.now c.pair.ensures

pub returns-clause-small : goal.returns-clause-small
returns-clause-small g c = c.out_row.ensures.places ∙ ap (λ (p : Pair). places_out_of c.args.day.now.net.now p.small) c.pair.ensures

pub returns-clause-large : goal.returns-clause-large
returns-clause-large g c = c.out_row-2.ensures.places ∙ ap (λ (p : Pair). places_out_of c.args.day.now.net.now p.large) c.pair.ensures

pub returns-clause-of_small : goal.returns-clause-of_small
returns-clause-of_small g c = out_row_below c.args.day.now.net.now c.pair.result.now.small c.out_row.result.now c.out_row.ensures.places

pub returns-clause-of_large : goal.returns-clause-of_large
returns-clause-of_large g c = out_row_below c.args.day.now.net.now c.pair.result.now.large c.out_row-2.result.now c.out_row-2.ensures.places

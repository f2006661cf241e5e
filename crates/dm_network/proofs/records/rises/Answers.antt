use Rattle.std.proofs.Common.{◌∙◌, arith, map}
use Rattle.std.proofs.lemmas.List.{length-map}
use Rattle.dm_network.proofs.Doubles.{none_stands_twice, rises_more}
use Rattle.dm_network.proofs.records.rises.Goals as goal

pub loop-item-preserved : goal.loop-item-preserved
loop-item-preserved g c =
    rises_more g.T.Numbered.number c.args.items.now c.loop-item.item-index c.loop-item.least c.item-item.result c.from-number.result
    c.loop-item.invariant c.loop-item-test.true c.item-item.is (c.from-number.ensures ∙ c.number.ensures) (omega arith)

pub returns : goal.returns
returns g c =
    let many = length-map c.args.items.now g.T.Numbered.number in
    λ _. none_stands_twice (map g.T.Numbered.number c.args.items.now) c.loop-item.item-index c.loop-item.invariant.front (omega (arith, many))

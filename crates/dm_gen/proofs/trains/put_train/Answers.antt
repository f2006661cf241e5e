use Rattle.std.proofs.Common.{◌≡◌, ◌∷◌, [], ◌++◌, ap, ◌∙◌, arith}
use Rattle.std.specs.List.{flat_map, range_with_len}
use Rattle.dm_gen.specs.Trains.{departure, events_of_leg, events_of_train}
use Rattle.dm_gen.proofs.Growing.{more_pairs}
use Rattle.dm_gen.proofs.trains.put_train.Goals as goal

pub loop-leg-preserved : goal.loop-leg-preserved
loop-leg-preserved c =
    more_pairs (events_of_leg c.args.train) c.args.events.now.items c.loop-leg.events.items c.push.new.self.items
    c.push-in-loop-leg.new.self.items c.loop-leg.leg c.departure.result c.arrival.result c.in_ok-push.ensures.items
    c.in_ok-push-2.ensures.items
    (ap (λ x. x ∷ c.arrival.result ∷ []) c.departure.ensures ∙ ap (λ y. departure c.args.train c.loop-leg.leg ∷ y ∷ []) c.arrival.ensures)
    c.loop-leg.invariant

pub returns : goal.returns
unfolding events_of_train
returns c =
    let e : c.loop-leg.leg ≡ 10 = omega (arith, c.loop-leg-test.false, c.loop-leg.auto.leg-end) in
    c.loop-leg.invariant ∙ ap (λ n. c.args.events.now.items ++ flat_map (events_of_leg c.args.train) (range_with_len 0 n)) e

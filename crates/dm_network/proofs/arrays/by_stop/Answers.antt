use Rattle.std.proofs.Common.{ap, ◌∙◌, map}
use Rattle.dm_network.proofs.Arraying.{stops_are_sorted}
use Rattle.dm_network.proofs.arrays.by_stop.Goals as goal

pub returns : goal.returns
returns c =
    stops_are_sorted c.args.events.now c.in_ok-standings.field-0.items c.in_ok-sorted.sorted.items c.in_ok-stops.stops.items c.in_ok-places.places.items
    c.in_ok-standings.ensures c.in_ok-sorted.ensures
    (c.in_ok-stops.ensures ∙ ap (λ xs. map (λ s. s.stop) xs) c.deref.ensures.value)
    (c.in_ok-places.ensures ∙ ap (λ xs. map (λ s. s.place) xs) c.deref-2.ensures.value)

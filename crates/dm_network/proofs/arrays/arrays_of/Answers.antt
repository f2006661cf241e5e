use Rattle.std.proofs.Common.{◌∙◌, length, refl}
use Rattle.dm_network.specs.Net.{no_activity}
use Rattle.dm_network.proofs.Arraying.{rows_of_mapped, mapped_ends_known}
use Rattle.dm_network.proofs.arrays.arrays_of.Goals as goal

pub adjacency_by-requires-clause-known : goal.adjacency_by-requires-clause-known
adjacency_by-requires-clause-known c =
    mapped_ends_known (λ a. a.head) (length c.args.events.now) c.args.activities.now c.deref.result.now refl
    (c.deref.ensures.value ∙ c.in_ok-heads.ensures) (λ a lt. (c.requires.ends a no_activity lt).head)

pub adjacency_by-requires-2-clause-known : goal.adjacency_by-requires-2-clause-known
adjacency_by-requires-2-clause-known c =
    mapped_ends_known (λ a. a.tail) (length c.args.events.now) c.args.activities.now c.deref-2.result.now refl
    (c.deref-2.ensures.value ∙ c.in_ok-tails.ensures) (λ a lt. (c.requires.ends a no_activity lt).tail)

pub returns : goal.returns
returns c = record {
  rows_in = rows_of_mapped (λ a. a.head) refl c.args.activities.now c.deref.result.now (c.deref.ensures.value ∙ c.in_ok-heads.ensures)
      (length c.args.events.now) c.in_ok-incoming.incoming.offsets.items c.in_ok-incoming.incoming.places.items c.in_ok-incoming.ensures;
  rows_out = rows_of_mapped (λ a. a.tail) refl c.args.activities.now c.deref-2.result.now (c.deref-2.ensures.value ∙ c.in_ok-tails.ensures)
      (length c.args.events.now) c.in_ok-outgoing.outgoing.offsets.items c.in_ok-outgoing.outgoing.places.items c.in_ok-outgoing.ensures;
  tails_are = c.in_ok-tails.ensures;
  at_stops = (let h = c.in_ok-by_stop.ensures in record { stops_are = h.stops_are; ascending = h.ascending; lists = h.lists });
}

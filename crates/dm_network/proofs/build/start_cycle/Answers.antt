-- An order leaves no cycle at the start, and a cycle of the search is one.
use Rattle.std.proofs.Common.{length}
use Rattle.dm_network.specs.Start.{is_start_active}
use Rattle.dm_network.specs.Held.{arcs_of}
use Rattle.dm_network.specs.Inside.Stages.{net_with}
use Rattle.dm_network.proofs.Starting.{knows_pairs, start_rows, start_ends, start_arrays, ordered_start, cycle_has_arcs, shown_start_cycle}
use Rattle.dm_network.proofs.build.start_cycle.Goals as goal

pub held_at_start-requires : goal.held_at_start-requires
held_at_start-requires c = knows_pairs (net_with c.args.events.now c.args.activities.now c.args.pairs.now) c.requires.formed

pub search-requires-clause-rows : goal.search-requires-clause-rows
search-requires-clause-rows c =
    rw (c.deref.ensures.value, c.deref-2.ensures.value, c.deref-3.ensures.value)
    (start_rows (net_with c.args.events.now c.args.activities.now c.args.pairs.now)
    c.args.arrays.now.tails.items c.args.arrays.now.incoming.offsets.items c.args.arrays.now.incoming.places.items c.in_ok-held.held.items
    c.requires.arrays.tails_are c.requires.arrays.rows_in c.in_ok-held.ensures c.requires.formed.ends_are_known
    (length c.in_ok-search.search.order) c.in_ok-search.ensures)

pub search-requires-clause-ends : goal.search-requires-clause-ends
search-requires-clause-ends c =
    rw (c.deref.ensures.value, c.deref-4.ensures.value)
    (start_ends (net_with c.args.events.now c.args.activities.now c.args.pairs.now)
    c.args.arrays.now.tails.items c.args.arrays.now.incoming.offsets.items c.args.arrays.now.incoming.places.items c.in_ok-held.held.items
    c.requires.arrays.tails_are c.requires.arrays.rows_in c.in_ok-held.ensures c.requires.formed.ends_are_known
    (length c.in_ok-search.search.order) c.in_ok-search.ensures)

pub returns-in-Ok : goal.returns-in-Ok
returns-in-Ok c =
    let net = net_with c.args.events.now c.args.activities.now c.args.pairs.now in
    ordered_start (net_with c.args.events.now c.args.activities.now c.args.pairs.now) c.search.new.self.order
    (c.in-Ok.ensures.order (arcs_of (net_with c.args.events.now c.args.activities.now c.args.pairs.now) (is_start_active (net_with c.args.events.now c.args.activities.now c.args.pairs.now)))
    (rw (c.deref.ensures.value, c.deref-2.ensures.value, c.deref-3.ensures.value, c.deref-4.ensures.value)
    (start_arrays (net_with c.args.events.now c.args.activities.now c.args.pairs.now)
    c.args.arrays.now.tails.items c.args.arrays.now.incoming.offsets.items c.args.arrays.now.incoming.places.items c.in_ok-held.held.items
    c.requires.arrays.tails_are c.requires.arrays.rows_in c.in_ok-held.ensures c.requires.formed.ends_are_known)))

pub ids_at-requires : goal.ids_at-requires
ids_at-requires c =
    let g = arcs_of (net_with c.args.events.now c.args.activities.now c.args.pairs.now) (is_start_active (net_with c.args.events.now c.args.activities.now c.args.pairs.now)) in
    rw c.cycle.ensures
    (cycle_has_arcs g c.search.new.self.cycle
    (c.in-Err.ensures.cycle g
    (rw (c.deref.ensures.value, c.deref-2.ensures.value, c.deref-3.ensures.value, c.deref-4.ensures.value)
    (start_arrays (net_with c.args.events.now c.args.activities.now c.args.pairs.now)
    c.args.arrays.now.tails.items c.args.arrays.now.incoming.offsets.items c.args.arrays.now.incoming.places.items c.in_ok-held.held.items
    c.requires.arrays.tails_are c.requires.arrays.rows_in c.in_ok-held.ensures c.requires.formed.ends_are_known))))

pub returns : goal.returns
returns c =
    let net = net_with c.args.events.now c.args.activities.now c.args.pairs.now in
    let g = arcs_of (net_with c.args.events.now c.args.activities.now c.args.pairs.now) (is_start_active (net_with c.args.events.now c.args.activities.now c.args.pairs.now)) in
    shown_start_cycle net c.cycle.result.now c.in_ok-ids-in-Err.ids.items
    (rw c.cycle.ensures
    (c.in-Err.ensures.cycle g
    (rw (c.deref.ensures.value, c.deref-2.ensures.value, c.deref-3.ensures.value, c.deref-4.ensures.value)
    (start_arrays net
    c.args.arrays.now.tails.items c.args.arrays.now.incoming.offsets.items c.args.arrays.now.incoming.places.items c.in_ok-held.held.items
    c.requires.arrays.tails_are c.requires.arrays.rows_in c.in_ok-held.ensures c.requires.formed.ends_are_known))))
    c.in_ok-ids-in-Err.ensures

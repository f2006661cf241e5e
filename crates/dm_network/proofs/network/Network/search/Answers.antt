use Rattle.std.proofs.Common.{◌∙◌, length, ap, sym, subst, refl}
use Rattle.std.specs.Prelude.{OnOk, OnErr}
use Rattle.std.proofs.lemmas.Result.{on_ok_weaker, on_err_weaker}
use Rattle.dm_graph.specs.Arcs.{IsOrder}
use Rattle.dm_graph.specs.Arrays.{AreArraysOf}
use Rattle.dm_network.specs.Held.{arcs_of, is_held, IsCycleOf}
use Rattle.dm_network.specs.Net.{Net}
use Rattle.dm_network.proofs.Flagged.{flagged_rows, flagged_ends, flagged_arrays}
use Rattle.dm_network.proofs.network.Network.search.Goals as goal
use Rattle.dm_network.proofs.network.Network.search.Goals.{After-search}

pub search-requires-clause-rows : goal.search-requires-clause-rows
search-requires-clause-rows c =
    rw (c.deref.ensures.value, c.deref-2.ensures.value, c.deref-3.ensures.value)
    (flagged_rows (record { events = c.self.inside.events.items; activities = c.self.inside.activities.items; pairs = c.self.inside.pairs.items })
    c.self.inside.tails.items c.self.inside.incoming.offsets.items c.self.inside.incoming.places.items
    c.self.invariant.tails_are c.self.invariant.rows_in c.self.invariant.network.formed.ends_are_known
    (length c.args.search.now.order) (c.requires.room ∙ ap (λ (net : Net). length net.events) (sym c.self.view_is)))

pub search-requires-clause-ends : goal.search-requires-clause-ends
search-requires-clause-ends c =
    rw c.deref.ensures.value
    (flagged_ends (record { events = c.self.inside.events.items; activities = c.self.inside.activities.items; pairs = c.self.inside.pairs.items })
    c.self.inside.tails.items c.self.inside.incoming.offsets.items c.self.inside.incoming.places.items
    c.self.invariant.tails_are c.self.invariant.rows_in c.self.invariant.network.formed.ends_are_known
    c.args.held.now (c.requires.flags ∙ ap (λ (net : Net). length net.activities) (sym c.self.view_is))
    (length c.args.search.now.order) (c.requires.room ∙ ap (λ (net : Net). length net.events) (sym c.self.view_is)))

-- the network's own lists are the arrays of the held activities
abbrev own_net : After-search → Net
own_net c = record { events = c.self.inside.events.items; activities = c.self.inside.activities.items; pairs = c.self.inside.pairs.items }

own_arrays : (c : After-search) →
    AreArraysOf (arcs_of (own_net c) (is_held c.args.held.now)) c.deref.result.now c.deref-2.result.now c.deref-3.result.now c.args.held.now
own_arrays c =
    rw (c.deref.ensures.value, c.deref-2.ensures.value, c.deref-3.ensures.value)
    (flagged_arrays (own_net c)
    c.self.inside.tails.items c.self.inside.incoming.offsets.items c.self.inside.incoming.places.items
    c.self.invariant.tails_are c.self.invariant.rows_in c.self.invariant.network.formed.ends_are_known
    c.args.held.now (is_held c.args.held.now) (λ a lt. refl))

pub returns-clause-order : goal.returns-clause-order
returns-clause-order c =
    subst (λ (net : Net). OnOk c.search.result (IsOrder (arcs_of net (is_held c.args.held.now)) c.search.new.self.order)) c.self.view_is
    (on_ok_weaker c.search.result (λ each. each (arcs_of (own_net c) (is_held c.args.held.now)) (own_arrays c)) c.search.ensures.order)

pub returns-clause-cycle : goal.returns-clause-cycle
returns-clause-cycle c =
    subst (λ (net : Net). OnErr c.search.result (IsCycleOf net (is_held c.args.held.now) c.search.new.self.cycle)) c.self.view_is
    (on_err_weaker c.search.result (λ each. each (arcs_of (own_net c) (is_held c.args.held.now)) (own_arrays c)) c.search.ensures.cycle)

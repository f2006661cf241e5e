use Rattle.std.proofs.Common.{inl, inr, sym}
use Rattle.dm_network.proofs.Resolving.{not_found_is_none, resolves_found}
use Rattle.dm_network.proofs.records.resolve.Goals as goal

pub returns-in_default : goal.returns-in_default
returns-in_default c = inl (not_found_is_none c.args.events.now c.args.row.now.tail (sym c.in_default.ensures))

pub returns-in_default-event_place : goal.returns-in_default-event_place
returns-in_default-event_place c = inr (not_found_is_none c.args.events.now c.args.row.now.head (sym c.in_default-event_place.ensures))

pub returns : goal.returns
returns c =
    resolves_found c.args.events.now c.args.row.now c.in-Some.tail c.in-Some-event_place.head (sym c.in-Some.ensures) (sym c.in-Some-event_place.ensures)

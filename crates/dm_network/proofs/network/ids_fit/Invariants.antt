use Rattle.std.proofs.Common.{ℕ, ◌<◌, get_or}
use Rattle.std.specs.Prelude.{◌^◌}
use Rattle.dm_network.specs.Net.{no_event}
use Rattle.dm_network.proofs.network.ids_fit.Given as goal

abbrev pub invariant-loop-event : goal.invariant-loop-event
invariant-loop-event l = (i : ℕ) → i < l.event-index → (get_or l.events i no_event).id.0 < 2 ^ 32

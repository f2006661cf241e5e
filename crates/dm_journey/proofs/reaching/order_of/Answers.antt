use Rattle.dm_network.specs.Held.{is_held}
use Rattle.dm_journey.proofs.WithoutCycle.{no_cycle_without_headways}
use Rattle.dm_journey.proofs.reaching.order_of.Goals as goal

pub unreachable-requires : goal.unreachable-requires
unreachable-requires c =
    no_cycle_without_headways c.args.net.now (is_held c.args.usable.now) c.reveal.ensures.network c.requires.no_headway _ c.in-Err.ensures.cycle

use Rattle.std.proofs.Common.{List, sym, subst, ◌∙◌}
use Rattle.dm_network.specs.Net.{Net}
use Rattle.dm_journey.specs.declared.arriving.Journey.{Journey}
use Rattle.dm_commands.specs.Inside.Asking.{AreWalksIn}
use Rattle.dm_commands.proofs.Questions.{walks_in}
use Rattle.dm_commands.proofs.journey.end_journeys.Goals as goal

pub end_found-requires : goal.end_found-requires
end_found-requires g c =
    subst (λ (journeys : List Journey). AreWalksIn c.network-in-Ok.result.now journeys) (sym c.deref.ensures.value)
    (subst (λ (n : Net). AreWalksIn n c.in-Ok.found.items) (c.network.ensures ∙ sym c.network-in-Ok.ensures) (walks_in _ _ _ _ _ _ _ _ c.in-Ok.ensures.answer))

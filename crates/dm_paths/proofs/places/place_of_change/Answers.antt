use Rattle.std.proofs.Common.{sym, ◌∙◌}
use Rattle.dm_paths.proofs.Placed.{change_named, no_change_named}
use Rattle.dm_paths.proofs.places.place_of_change.Goals as goal

pub returns-in-Some-clause-some : goal.returns-in-Some-clause-some
returns-in-Some-clause-some c = change_named c.args.net.now c.args.a c.in-Some.place (sym c.act_place.ensures ∙ c.in-Some.is)

pub returns-in-None-clause-none : goal.returns-in-None-clause-none
returns-in-None-clause-none c = no_change_named c.args.net.now c.reveal.ensures.network c.args.a (sym c.act_place.ensures ∙ c.in-None.is)

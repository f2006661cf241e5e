use Rattle.std.proofs.Common.{◌∙◌, ap, sym}
use Rattle.dm_network.proofs.Keys.{key_is_found}
use Rattle.dm_network.proofs.find.place_of.Goals as goal

pub returns-then-number : goal.returns-then-number
returns-then-number g c =
    sym (key_is_found g.T.Numbered.number c.args.items.now c.requires c.args.number c.saturating_sub-guess.result c.index-items-guess.result c.if-guess-items.true
    (ap g.T.Numbered.number (sym c.index-items-guess.is) ∙ sym c.number-then-guess-items.ensures ∙ c.if-number.true))

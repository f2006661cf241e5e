use Rattle.std.proofs.Common.{rules, ap, sym, ◌∙◌, ◌∷◌, Some}
use Rattle.atomic_table.specs.Table.{rest}
use Rattle.dm_turn.proofs.steps.take_out.Goals as goal

pub exchange-found-requires : goal.exchange-found-requires
exchange-found-requires g c = let home = c.requires.home in (
  search rules,
  (Some home.0, home.1 ∙ ap (λ cs. (0, Some home.0) ∷ rest cs) (sym home.1)),
)

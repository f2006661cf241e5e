use Rattle.std.proofs.Common.{drop, sym, ap, ◌∙◌}
use Rattle.dm_serve.proofs.opening.behind_first.Goals as goal

pub returns-in-Some : goal.returns-in-Some
returns-in-Some c = sym (ap (drop 1) c.in-Some.ensures)

pub returns-in-None : goal.returns-in-None
returns-in-None c = c.in-None.ensures ∙ sym (ap (drop 1) c.in-None.ensures)

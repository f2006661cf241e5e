use Rattle.dm_traverse.proofs.Started.{stands_at_start}
use Rattle.dm_traverse.proofs.finishing.standing_with.Goals as goal

pub returns-clause-stands : goal.returns-clause-stands
returns-clause-stands c =
    rw (c.in_ok-nodes.ensures.items, c.as_slice.ensures.nodes, c.from_vec-choices.ensures)
    (stands_at_start _ c.reveal.ensures.network _ _ _ c.requires.start c.requires.costs.cost)

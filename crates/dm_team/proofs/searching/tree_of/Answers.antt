use Rattle.dm_team.proofs.Starts.{have_a_tree}
use Rattle.dm_team.proofs.searching.tree_of.Goals as goal

pub unreachable-requires : goal.unreachable-requires
unreachable-requires c =
    let found = c.requires.closed in
    have_a_tree _ c.reveal.ensures.network _ _ _ _ _ c.requires.posed _ _ _ found.apart found.ends (c.assemble.ensures.not_a_tree (cc))

use Rattle.std.proofs.Common.{sym, ◌∙◌}
use Rattle.dm_paths.proofs.FlipNames.{flip_is, flip_reaches, flip_is_named}
use Rattle.dm_paths.proofs.flips.flip_of.Goals as goal

pub unreachable-requires : goal.unreachable-requires
unreachable-requires c =
    flip_is_named c.args.net.now c.reveal.ensures.network c.args.rows.now c.args.decision c.requires (sym c.flip_named.ensures ∙ c.in_default.is)

pub returns-clause-flip : goal.returns-clause-flip
returns-clause-flip c =
    flip_is c.args.net.now c.reveal.ensures.network c.args.rows.now c.args.decision c.requires c.in-Some.flip (sym c.flip_named.ensures ∙ c.in-Some.is)

pub returns-clause-reaches : goal.returns-clause-reaches
returns-clause-reaches c =
    flip_reaches c.args.net.now c.reveal.ensures.network c.args.rows.now c.args.decision c.requires c.in-Some.flip (sym c.flip_named.ensures ∙ c.in-Some.is)

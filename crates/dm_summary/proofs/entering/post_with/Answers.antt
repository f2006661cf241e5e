use Rattle.dm_summary.proofs.Posting.{line_is_taken}
use Rattle.dm_summary.proofs.entering.post_with.Goals as goal

pub unreachable-requires : goal.unreachable-requires
unreachable-requires g c =
    line_is_taken c.args.table.now c.args.entry.message c.in-Err.field-0 c.reveal.ensures.table c.requires.none_passed c.requires.few c.requires.delays c.in-Err.ensures.refused

use Rattle.std.proofs.Common.{sym, ◌∙◌}
use Rattle.std.proofs.lemmas.Bool.{false≢true}
use Rattle.dm_summary.proofs.Wanting.{times_are_made}
use Rattle.dm_summary.proofs.opening.table_of.Goals as goal
use Rattle.dm_summary.proofs.opening.table_of.Goals.{in-OutOfMemory, in_default}

pub prove-unreachable-requires : goal.prove-unreachable-requires
prove-unreachable-requires c =
    let is = times_are_made c.args.net.now c.args.rows c.in-Err.fault c.reveal.ensures.network c.requires.start c.in-Err.ensures.refused in
    elim c.match-matches.branch [
      | in-OutOfMemory w ↦ false≢true (sym c.if-prove.true ∙ w.matches-is)
      | in_default w ↦ w.in_default.not-OutOfMemory is
    ]

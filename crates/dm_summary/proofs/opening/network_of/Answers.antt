use Rattle.std.proofs.Common.{sym, ◌∙◌}
use Rattle.std.proofs.lemmas.Bool.{false≢true}
use Rattle.dm_gen.proofs.Refusing.{within_limits, make_network}
use Rattle.dm_summary.proofs.opening.network_of.Goals as goal
use Rattle.dm_summary.proofs.opening.network_of.Goals.{in-OutOfMemory, in_default}

pub build-requires : goal.build-requires
build-requires c = record { within = rw (c.requires.events, c.requires.activities) (within_limits c.args.trains c.requires.few) }

pub prove-unreachable-requires : goal.prove-unreachable-requires
prove-unreachable-requires c =
    let is = make_network c.args.trains c.in-Err.fault c.requires.few (rw (c.requires.events, c.requires.activities) at c.in-Err.ensures.refused) in
    elim c.match-matches.branch [
      | in-OutOfMemory w ↦ false≢true (sym c.if-prove.true ∙ w.matches-is)
      | in_default w ↦ w.in_default.not-OutOfMemory is
    ]

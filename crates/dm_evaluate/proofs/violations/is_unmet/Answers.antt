use Rattle.dm_rows.proofs.PairEnds.{small_is_event, large_is_event}
use Rattle.dm_evaluate.proofs.violations.is_unmet.Goals as goal

pub has_unmet_from-requires-clause-is_event : goal.has_unmet_from-requires-clause-is_event
has_unmet_from-requires-clause-is_event g c = rw c.pair-pair.ensures (small_is_event c.args.net.now c.reveal.ensures.network c.args.p c.requires.is_pair)

pub has_unmet_from-requires-then-has_unmet_from-clause-is_event :
    goal.has_unmet_from-requires-then-has_unmet_from-clause-is_event
has_unmet_from-requires-then-has_unmet_from-clause-is_event g c =
    rw c.pair-pair.ensures (large_is_event c.args.net.now c.reveal.ensures.network c.args.p c.requires.is_pair)

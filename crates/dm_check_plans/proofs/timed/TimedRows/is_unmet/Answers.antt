use Rattle.dm_rows.proofs.PairEnds.{small_is_event, large_is_event}
use Rattle.dm_check_plans.proofs.timed.TimedRows.is_unmet.Goals as goal

pub has_unmet_from-requires : goal.has_unmet_from-requires
has_unmet_from-requires c =
    rw c.pair-pair.ensures (record { is_event = small_is_event c.args.self.now.net.now c.reveal.ensures.network c.args.p c.requires.is_pair })

pub has_unmet_from-requires-then-has_unmet_from : goal.has_unmet_from-requires-then-has_unmet_from
has_unmet_from-requires-then-has_unmet_from c =
    rw c.pair-pair.ensures (record { is_event = large_is_event c.args.self.now.net.now c.reveal.ensures.network c.args.p c.requires.is_pair })

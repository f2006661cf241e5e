use Rattle.std.proofs.Common.{subst, sym, ◌<◌, length}
use Rattle.dm_network.specs.declared.parts.Pair.{Pair}
use Rattle.dm_network.proofs.EventRows.{leads_out}
use Rattle.dm_rows.proofs.PairEnds.{small_is_event, large_is_event}
use Rattle.dm_check_times.specs.Inside.Agreeing.{Renews, Nowhere, IsOutOf}
use Rattle.dm_check_times.proofs.Agreeing.{pair_whole, row_out_whole}
use Rattle.dm_check_times.proofs.keeping.renew_pair.Goals as goal

pub returns-clause-renews : goal.returns-clause-renews
returns-clause-renews c = λ small.
    pair_whole c.args.net.now c.args.rows.now c.args.pair small c.args.timetable.now c.renew_row.new.timetable c.renew_row-2.new.timetable
    (subst (λ (p : Pair). Renews c.args.net.now c.args.rows.now Nowhere (IsOutOf c.args.net.now p.small) c.args.timetable.now c.renew_row.new.timetable) c.pair-pair.ensures
    (row_out_whole c.args.net.now c.args.rows.now _ _ c.args.timetable.now c.renew_row.new.timetable c.row_out_of.ensures c.renew_row.ensures.renews))
    (subst (λ (p : Pair). Renews c.args.net.now c.args.rows.now Nowhere (IsOutOf c.args.net.now p.large) c.renew_row.new.timetable c.renew_row-2.new.timetable) c.pair-pair.ensures
    (row_out_whole c.args.net.now c.args.rows.now _ _ c.renew_row.new.timetable c.renew_row-2.new.timetable c.row_out_of-2.ensures c.renew_row-2.ensures.renews))

pub renew_row-requires-clause-row : goal.renew_row-requires-clause-row
renew_row-requires-clause-row c = λ k below. (leads_out c.args.net.now _ k _ c.row_out_of.ensures below).is_activity

pub renew_row-requires-2-clause-row : goal.renew_row-requires-2-clause-row
renew_row-requires-2-clause-row c = λ k below. (leads_out c.args.net.now _ k _ c.row_out_of-2.ensures below).is_activity

pub row_out_of-requires : goal.row_out_of-requires
row_out_of-requires c =
    subst (λ (p : Pair). p.small < length c.args.net.now.events) (sym c.pair-pair.ensures) (small_is_event c.args.net.now c.reveal.ensures.network c.args.pair c.requires.is_pair)

pub row_out_of-requires-2 : goal.row_out_of-requires-2
row_out_of-requires-2 c =
    subst (λ (p : Pair). p.large < length c.args.net.now.events) (sym c.pair-pair.ensures) (large_is_event c.args.net.now c.reveal.ensures.network c.args.pair c.requires.is_pair)

-- proofs/summing/summary_over/Answers.antt
use Rattle.std.proofs.lemmas.Result.{IfOk-weaker}
use Rattle.dm_summary.specs.Inside.Lines.{IsSummaryAfter, IsSummaryOver}
use Rattle.dm_summary.proofs.Told.{still_delay, none_passed_at_start}
use Rattle.dm_summary.proofs.summing.summary_over.Goals as goal

pub summary_after-requires-clause-delays : goal.summary_after-requires-clause-delays
summary_after-requires-clause-delays c = still_delay c.args.net.now c.args.penalty c.in_ok-table.table c.args.lines.now c.in_ok-table.ensures c.requires.delays

pub summary_after-requires-clause-none_passed : goal.summary_after-requires-clause-none_passed
summary_after-requires-clause-none_passed c = none_passed_at_start c.args.net.now c.args.penalty c.in_ok-table.table c.in_ok-table.ensures

pub returns : goal.returns
returns c =
    IfOk-weaker c.summary_after.result (IsSummaryAfter c.in_ok-table.table c.args.lines.now) (IsSummaryOver c.args.net.now c.args.lines.now c.args.penalty)
    (λ summary after. record { table = c.in_ok-table.table; opened = c.in_ok-table.ensures; after = after }) c.summary_after.ensures

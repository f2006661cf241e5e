-- proofs/summing/summary_after/Answers.antt
use Rattle.std.proofs.lemmas.Result.{IfOk-weaker}
use Rattle.dm_summary.specs.Inside.Lines.{IsSummaryAfter, IsSummaryIn}
use Rattle.dm_summary.proofs.summing.summary_after.Goals as goal

pub returns : goal.returns
returns c =
    IfOk-weaker c.summary_of.result (IsSummaryIn c.enter_lines.new.table) (IsSummaryAfter c.args.table.now c.args.lines.now)
    (λ summary told. record { table = c.enter_lines.new.table; is_table = c.reveal.ensures.table; entered = c.in_ok-enter_lines.ensures; told = told }) c.summary_of.ensures

-- proofs/summing/summarize/Answers.antt
use Rattle.std.proofs.Common.{◌∙◌}
use Rattle.std.proofs.lemmas.Result.{IfOk-weaker}
use Rattle.dm_summary.specs.Summed.{IsSummaryOf}
use Rattle.dm_summary.specs.Inside.Lines.{IsSummaryOver}
use Rattle.dm_summary.proofs.Told.{few_lines, lines_delay, summary_of_day}
use Rattle.dm_summary.proofs.summing.summarize.Goals as goal

pub summary_over-requires-clause-few : goal.summary_over-requires-clause-few
summary_over-requires-clause-few c = few_lines c.args.number c.args.trains c.deref.result.now (c.deref.ensures.value ∙ c.in_ok-events.ensures.feed)

pub summary_over-requires-clause-delays : goal.summary_over-requires-clause-delays
summary_over-requires-clause-delays c =
    lines_delay c.args.number c.args.trains _ c.deref.result.now c.requires.least c.in_ok-net.ensures (c.deref.ensures.value ∙ c.in_ok-events.ensures.feed)

pub returns : goal.returns
returns c =
    IfOk-weaker c.summary_over.result (IsSummaryOver _ c.deref.result.now c.args.penalty) (IsSummaryOf c.args.number c.args.trains c.args.penalty)
    (λ summary over. summary_of_day c.args.number c.args.trains c.args.penalty _ c.deref.result.now summary c.in_ok-net.ensures
    (c.deref.ensures.value ∙ c.in_ok-events.ensures.feed) over) c.summary_over.ensures

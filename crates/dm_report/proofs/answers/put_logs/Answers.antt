use Rattle.std.proofs.Common.{refl, drop, ap, ◌+◌}
use Rattle.dm_cert.specs.RunTexts.{log_text, logs_text}
use Rattle.dm_report.proofs.Printed.{printed_none, printed_next, printed_fault, printed_all, numbered_more, drop_end}
use Rattle.dm_report.proofs.answers.put_logs.Goals as goal

pub loop-i-init : goal.loop-i-init
loop-i-init g c = printed_none _ _ _ _ refl

pub loop-i-preserved : goal.loop-i-preserved
loop-i-preserved g c =
    printed_next (log_text 2 (c.loop-i.i + 1) c.index-logs-i.result) (logs_text 2 (c.loop-i.i + 1 + 1) (drop (c.loop-i.i + 1) c.args.logs.now)) c.loop-i.invariant
    (numbered_more (log_text 2) (logs_text 2) (λ _ _ _. refl) (c.loop-i.i + 1) c.loop-i.i c.args.logs.now c.index-logs-i.result c.loop-i-test.true c.index-logs-i.is) c.in-Ok.ensures

pub returns-in_default : goal.returns-in_default
returns-in_default g c =
    printed_fault (log_text 2 (c.loop-i.i + 1) c.index-logs-i.result) (logs_text 2 (c.loop-i.i + 1 + 1) (drop (c.loop-i.i + 1) c.args.logs.now)) c.loop-i.invariant
    (numbered_more (log_text 2) (logs_text 2) (λ _ _ _. refl) (c.loop-i.i + 1) c.loop-i.i c.args.logs.now c.index-logs-i.result c.loop-i-test.true c.index-logs-i.is) c.in_default.ensures

pub returns : goal.returns
returns g c = printed_all c.loop-i.invariant (ap (logs_text 2 (c.loop-i.i + 1)) (drop_end c.args.logs.now c.loop-i.i c.loop-i-test.false))

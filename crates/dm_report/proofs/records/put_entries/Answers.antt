use Rattle.std.proofs.Common.{refl, drop, ap, ◌+◌}
use Rattle.dm_cert.specs.RunTexts.{entry_text, entries_text}
use Rattle.dm_report.proofs.Printed.{printed_none, printed_next, printed_fault, printed_all, numbered_more, drop_end}
use Rattle.dm_report.proofs.records.put_entries.Goals as goal

pub loop-i-init : goal.loop-i-init
loop-i-init g c = printed_none _ _ _ _ refl

pub loop-i-preserved : goal.loop-i-preserved
loop-i-preserved g c =
    printed_next (entry_text (c.loop-i.i + 1) c.index-entries-i.result) (entries_text (c.loop-i.i + 1 + 1) (drop (c.loop-i.i + 1) c.args.entries.now)) c.loop-i.invariant
    (numbered_more entry_text entries_text (λ _ _ _. refl) (c.loop-i.i + 1) c.loop-i.i c.args.entries.now c.index-entries-i.result c.loop-i-test.true c.index-entries-i.is) c.in-Ok.ensures

pub returns-in_default : goal.returns-in_default
returns-in_default g c =
    printed_fault (entry_text (c.loop-i.i + 1) c.index-entries-i.result) (entries_text (c.loop-i.i + 1 + 1) (drop (c.loop-i.i + 1) c.args.entries.now)) c.loop-i.invariant
    (numbered_more entry_text entries_text (λ _ _ _. refl) (c.loop-i.i + 1) c.loop-i.i c.args.entries.now c.index-entries-i.result c.loop-i-test.true c.index-entries-i.is) c.in_default.ensures

pub returns : goal.returns
returns g c = printed_all c.loop-i.invariant (ap (entries_text (c.loop-i.i + 1)) (drop_end c.args.entries.now c.loop-i.i c.loop-i-test.false))

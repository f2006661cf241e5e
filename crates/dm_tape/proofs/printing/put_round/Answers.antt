use Rattle.std.proofs.Common.{refl, drop, ap, ◌+◌}
use Rattle.dm_report.proofs.Printed.{printed_none, printed_next, printed_fault, printed_all, numbered_more, drop_end}
use Rattle.dm_tape.specs.Rounds.{part_text, parts_text, round_text}
use Rattle.dm_tape.proofs.printing.put_round.Goals as goal

pub loop-i-init : goal.loop-i-init
loop-i-init g c = printed_none _ _ _ _ refl

pub loop-i-preserved : goal.loop-i-preserved
loop-i-preserved g c =
    printed_next (part_text (c.loop-i.i + 1) c.index-round-i.result) (parts_text (c.loop-i.i + 1 + 1) (drop (c.loop-i.i + 1) c.args.round.now)) c.loop-i.invariant
    (numbered_more part_text parts_text (λ _ _ _. refl) (c.loop-i.i + 1) c.loop-i.i c.args.round.now c.index-round-i.result c.loop-i-test.true c.index-round-i.is) (rw c.as_slice.ensures at c.in-Ok.ensures)

pub returns-in_default : goal.returns-in_default
unfolding round_text
returns-in_default g c =
    printed_fault (part_text (c.loop-i.i + 1) c.index-round-i.result) (parts_text (c.loop-i.i + 1 + 1) (drop (c.loop-i.i + 1) c.args.round.now)) c.loop-i.invariant
    (numbered_more part_text parts_text (λ _ _ _. refl) (c.loop-i.i + 1) c.loop-i.i c.args.round.now c.index-round-i.result c.loop-i-test.true c.index-round-i.is) (rw c.as_slice.ensures at c.in_default.ensures)

pub returns : goal.returns
unfolding round_text
returns g c = printed_all c.loop-i.invariant (ap (parts_text (c.loop-i.i + 1)) (drop_end c.args.round.now c.loop-i.i c.loop-i-test.false))

use Rattle.std.proofs.Common.{◌+◌, Ok, drop, refl, ap, ◌∙◌}
use Rattle.dm_outside.proofs.Printing.{finishes}
use Rattle.dm_report.proofs.Printed.{printed_none, printed_next, printed_all, numbered_more, drop_end}
use Rattle.dm_tape.specs.Rounds.{part_text, round_text}
use Rattle.dm_watch.specs.Settled.{new_items}
use Rattle.dm_items.proofs.Texts.{taken, faults, gathered_text}
use Rattle.dm_watch.proofs.Texts.{feeds_text}
use Rattle.dm_watch.proofs.settling.text_of_round.Goals as goal

pub loop-place-init : goal.loop-place-init
loop-place-init g c = printed_none {taken = taken} {faults = faults} _ _ _ _ refl

pub loop-place-preserved : goal.loop-place-preserved
loop-place-preserved g c =
    printed_next {taken = taken} {faults = faults} (part_text (c.loop-place.place + 1) (new_items c.index-feeds-place.result)) (feeds_text (c.loop-place.place + 1 + 1) (drop (c.loop-place.place + 1) c.args.feeds.now)) c.loop-place.invariant
    (numbered_more (λ n w. part_text n (new_items w)) feeds_text (λ _ _ _. refl) (c.loop-place.place + 1) c.loop-place.place c.args.feeds.now c.index-feeds-place.result c.loop-place-test.true c.index-feeds-place.is) c.in-Ok.ensures

pub returns : goal.returns
unfolding round_text
returns g c =
    c.into_bytes.ensures ∙ gathered_text c.new-sink.result c.finish.new.sink _ c.new-sink.ensures
    (finishes {taken = taken} {faults = faults} {E = Unit {0}} c.finish.new.sink (Ok tt) c.new-page.ensures
    (printed_all {taken = taken} {faults = faults} c.loop-place.invariant (ap (feeds_text (c.loop-place.place + 1)) (drop_end c.args.feeds.now c.loop-place.place c.loop-place-test.false))) c.in-Ok-finish.ensures)

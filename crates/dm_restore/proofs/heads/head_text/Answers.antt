use Rattle.std.proofs.Common.{Ok, ◌∙◌}
use Rattle.dm_outside.proofs.Printing.{finishes}
use Rattle.dm_items.proofs.Texts.{taken, faults, gathered_text}
use Rattle.dm_restore.proofs.heads.head_text.Goals as goal

pub returns : goal.returns
returns c =
    c.into_bytes.ensures
    ∙ gathered_text c.new-sink.result c.finish.new.sink _ c.new-sink.ensures (finishes {taken = taken} {faults = faults} {E = Unit {0}} c.finish.new.sink (Ok tt) c.new-page.ensures c.in-Ok.ensures c.in-Ok-finish.ensures)

use Rattle.std.proofs.Common.{subst, sym}
use Rattle.dm_outside.specs.Printing.{Gathers}
use Rattle.dm_outside.proofs.Printing.{prints_past, takes_then}
use Rattle.dm_outside.proofs.page.Page.put_past.Goals as goal

pub returns : goal.returns
returns g c =
    subst (λ held. Gathers g.K.Sink.taken g.K.Sink.faults c.args.sink.now c.put_all.new.sink c.args.self.now held c.args.text.now)
    (sym c.in-Ok.ensures.empty)
    (prints_past (takes_then c.in-Ok.ensures.puts c.in-Ok-put_all.ensures))

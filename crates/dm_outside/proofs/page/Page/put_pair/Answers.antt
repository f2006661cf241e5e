use Rattle.std.proofs.Common.{◌++◌, [], sym, subst}
use Rattle.std.specs.Prelude.{codes}
use Rattle.std.specs.Fmt.{decimal}
use Rattle.dm_outside.specs.Printing.{Prints, Breaks}
use Rattle.dm_outside.proofs.Printing.{prints_fault, prints_last, number_then}
use Rattle.dm_outside.proofs.page.Page.put_pair.Goals as goal

pub returns-in_default : goal.returns-in_default
returns-in_default g c =
    subst (Breaks g.K.Sink.taken g.K.Sink.faults c.args.sink.now c.put_number.new.sink c.args.self.now)
    (sym (number_then c.args.words.now (decimal c.args.pair.0) (codes " " ++ (decimal c.args.pair.1 ++ []))))
    (prints_fault (codes " " ++ (decimal c.args.pair.1 ++ [])) c.in_default.ensures)

pub returns : goal.returns
returns g c =
    subst (λ text. Prints g.K.Sink.taken g.K.Sink.faults c.args.sink.now c.put_number-2.new.sink c.args.self.now c.put_number-2.new.self c.put_number-2.result text)
    (sym (number_then c.args.words.now (decimal c.args.pair.0) (codes " " ++ (decimal c.args.pair.1 ++ []))))
    (prints_last c.put_number-2.new.sink c.put_number-2.new.self (codes " " ++ (decimal c.args.pair.1 ++ [])) c.put_number-2.result c.in-Ok.ensures c.put_number-2.ensures)

use Rattle.std.proofs.Common.{◌++◌, [], sym, ap, subst, append-nil}
use Rattle.std.specs.Fmt.{decimal}
use Rattle.dm_outside.specs.Printing.{Prints}
use Rattle.dm_outside.proofs.Printing.{prints_fault, prints_last}
use Rattle.dm_outside.proofs.page.Page.put_number.Goals as goal

pub returns-in_default : goal.returns-in_default
returns-in_default g c = prints_fault (decimal c.args.number ++ []) (rw c.as_bytes.ensures.value at c.in_default.ensures)

pub returns : goal.returns
returns g c =
    subst (λ text. Prints g.K.Sink.taken g.K.Sink.faults c.args.sink.now c.put_digits.new.sink c.args.self.now c.put_digits.new.self c.put_digits.result text)
    (ap (λ l. c.args.words.now ++ l) (sym (append-nil (decimal c.args.number))))
    (prints_last c.put_digits.new.sink c.put_digits.new.self (decimal c.args.number) c.put_digits.result (rw c.as_bytes.ensures.value at c.in-Ok.ensures) c.put_digits.ensures)

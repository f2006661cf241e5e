use Rattle.dm_outside.proofs.Printing.{finishes, unfinished, prints_fault, prints_then, prints_then_fault}
use Rattle.dm_ruling.specs.Texts.{comparison_text, compared_text}
use Rattle.dm_ruling.proofs.printing.print_comparison.Goals as goal

pub returns-in_default : goal.returns-in_default
unfolding comparison_text
returns-in_default g c = unfinished c.new-page.ensures (prints_fault (compared_text c.args.compared.now) c.in_default.ensures)

pub returns-in_default-put_compared : goal.returns-in_default-put_compared
unfolding comparison_text
returns-in_default-put_compared g c = unfinished c.new-page.ensures (prints_then_fault c.in-Ok.ensures c.in_default-put_compared.ensures)

pub returns : goal.returns
unfolding comparison_text
returns g c =
    finishes c.finish.new.sink c.finish.result c.new-page.ensures (prints_then c.in-Ok.ensures c.in-Ok-put_compared.ensures) c.finish.ensures

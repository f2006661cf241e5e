use Rattle.std.proofs.Common.{◌∙◌, sym}
use Rattle.dm_lintim.specs.Inside.Reader.{cells_of}
use Rattle.dm_lintim.proofs.DigitLemmas.{counts_by_digit}
use Rattle.dm_lintim.proofs.cells.is_passed_over.Goals as goal

pub returns-then-begins_with_digit : goal.returns-then-begins_with_digit
returns-then-begins_with_digit c =
    sym (counts_by_digit (cells_of c.args.fields.now) c.field_at-field.result.now c.field_at-field.ensures (sym c.begins_with_digit.ensures ∙ c.if-begins_with_digit.true))

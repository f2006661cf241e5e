use Rattle.std.proofs.Common.{◌∙◌, arith, sym}
use Rattle.dm_lintim.proofs.ColumnLemmas.{missing_more}
use Rattle.dm_lintim.specs.declared.columns.Column.TheVariants as col
use Rattle.dm_lintim.proofs.words.first_missing.Goals as goal

pub loop-column-preserved : goal.loop-column-preserved
loop-column-preserved c =
    missing_more c.args.layout.now c.args.required.now c.loop-column.column-index col.Id (omega arith) (sym c.has.ensures ∙ c.if-not-has.false) c.loop-column.invariant

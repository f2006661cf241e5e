use Rattle.std.proofs.Common.{◌∙◌, ap, arith, sym}
use Rattle.dm_lintim.proofs.ColumnLemmas.{known_place}
use Rattle.dm_lintim.specs.Columns.{column_name}
use Rattle.dm_lintim.specs.declared.columns.Column.TheVariants as col
use Rattle.dm_lintim.proofs.words.column_named.Goals as goal

pub returns-clause-none : goal.returns-clause-none
returns-clause-none c = λ column named.
    let (i, below, at) = known_place c.args.known.now column named.0 in
    c.loop-column.invariant i (omega (arith, below)) col.Id (named.1 ∙ ap column_name (sym (at col.Id)))

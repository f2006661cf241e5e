use Rattle.dm_lintim.specs.Inside.Reader.{cells_of}
use Rattle.dm_lintim.proofs.ValueLemmas.{has_kind}
use Rattle.dm_lintim.proofs.rows.read_row.Goals as goal

pub make-requires-clause-kind : goal.make-requires-clause-kind
make-requires-clause-kind g c =
    has_kind g.R.Row.names c.args.columns.now (cells_of c.args.fields.now) g.R.Row.required c.in_ok-values.values.kind c.requires.columns c.in_ok-values.ensures.values.kind_is

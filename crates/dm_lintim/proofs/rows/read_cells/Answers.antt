use Rattle.std.proofs.Common.{[], arith, get_or, refl}
use Rattle.std.proofs.lemmas.Grind.{common_steps}
use Rattle.std.proofs.lemmas.Result.{err_from_is_err_and}
use Rattle.dm_lintim.proofs.CellLemmas.{refuses_at}
use Rattle.dm_lintim.specs.Inside.Reader.{cells_of}
use Rattle.dm_lintim.proofs.ValueLemmas.{values_end, values_step}
use Rattle.dm_lintim.proofs.rows.read_cells.Goals as goal

pub loop-place-preserved : goal.loop-place-preserved
loop-place-preserved g c = (
  grind (arith, common_steps),
  grind (arith, common_steps),
  values_step g.R.Row.names c.args.columns.now (cells_of c.args.fields.now) c.loop-place.place (get_or (cells_of c.args.fields.now) c.loop-place.place []) _ _ _ _ c.loop-place-test.true c.requires refl c.loop-place.invariant.2 c.in_ok-read_cell.ensures.puts,
  c.in_ok-read_cell.ensures.within,
)

pub returns-clause-values : goal.returns-clause-values
returns-clause-values g c =
    values_end g.R.Row.names c.args.columns.now (cells_of c.args.fields.now) c.loop-place.place _ _ c.loop-place-test.false c.requires c.loop-place.invariant.2

pub returns-in_err-read_cell-clause-refuses : goal.returns-in_err-read_cell-clause-refuses
returns-in_err-read_cell-clause-refuses g c =
    let p = err_from_is_err_and c.from_residual.result c.from_residual.ensures.1 in
    let refused = refuses_at g.R.Row.is_known c.args.columns.now (cells_of c.args.fields.now) c.loop-place.place (get_or (cells_of c.args.fields.now) c.loop-place.place []) _ c.loop-place-test.true c.requires refl c.in_err-read_cell.ensures.refuses in
    rw (p.1, p.2) (c.loop-place.invariant.1 _ refused)

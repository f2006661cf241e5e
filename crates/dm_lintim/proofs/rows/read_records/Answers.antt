use Rattle.std.proofs.Common.{arith, inl, inr, length, true}
use Rattle.std.proofs.lemmas.Result.{err_from_is_err_and}
use Rattle.csv.specs.Records.{fields_of}
use Rattle.dm_lintim.proofs.BoundLemmas.{HasFewFields, fields_few, records_few}
use Rattle.dm_lintim.specs.Inside.Reader.{TakesFirst}
use Rattle.dm_lintim.proofs.RowLemmas.{first_fault, record_at, rows_few, rows_more}
use Rattle.dm_lintim.proofs.rows.read_records.Goals as goal

pub add_record-requires-clause-few : goal.add_record-requires-clause-few
add_record-requires-clause-few g c =
    let took : TakesFirst c.loop-rows.reader c.read_one.new.reader (fields_of c.read_one.new.fields) true = rw c.if-branch.true at c.in_ok-read_one.ensures in
    let has = rw took.1 at c.loop-rows.invariant.0 in
    let few = record_at g.R.Row.is_known g.R.Row.is_row c.args.columns.now (HasFewFields (length c.args.bytes.now)) _ _ _ _ has (fields_few c.args.bytes.now) in
    omega (arith, few, c.requires.size)

pub add_record-requires-clause-room : goal.add_record-requires-clause-room
add_record-requires-clause-room g c =
    let few = rows_few g.R.Row.is_known g.R.Row.is_row c.args.columns.now _ _ _ c.loop-rows.invariant.0 in
    omega (arith, few, records_few c.args.bytes.now, c.requires.size)

pub loop-rows-preserved : goal.loop-rows-preserved
loop-rows-preserved g c =
    let took : TakesFirst c.loop-rows.reader c.read_one.new.reader (fields_of c.read_one.new.fields) true = rw c.if-branch.true at c.in_ok-read_one.ensures in
    let has = rw took.1 at c.loop-rows.invariant.0 in
    (rows_more g.R.Row.is_known g.R.Row.is_row c.args.columns.now _ _ _ _ _ has c.in_ok-add_record.ensures.adds, took.0)

pub returns-in_err-add_record-clause-fault : goal.returns-in_err-add_record-clause-fault
returns-in_err-add_record-clause-fault g c =
    let took : TakesFirst c.loop-rows.reader c.read_one.new.reader (fields_of c.read_one.new.fields) true = rw c.if-branch.true at c.in_ok-read_one.ensures in
    let has = rw took.1 at c.loop-rows.invariant.0 in
    let p = err_from_is_err_and c.from_residual-in_err-add_record.result c.from_residual-in_err-add_record.ensures.1 in
    let b = c.in_err-add_record.ensures.breaks in
    rw (p.1, p.2) (elim b [
      | inl memory ↦ inl memory
      | inr breaks ↦ inr (inr (c.requires.no_mark, first_fault g.R.Row.is_known g.R.Row.is_row c.args.columns.now _ _ _ _ _ has breaks))
    ])

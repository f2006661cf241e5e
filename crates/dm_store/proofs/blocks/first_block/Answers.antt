use Rattle.std.proofs.Common.{◌<◌, ◌^◌, length, sym, arith}
use Rattle.dm_store.proofs.Standing.{end_unless_gate, end_unless_number, end_unless_line, split_reads}
use Rattle.dm_store.proofs.blocks.first_block.Goals as goal

pub returns-in_err-rest : goal.returns-in_err-rest
returns-in_err-rest c =
    let short : length c.args.file.now < 2 ^ 64 = omega arith in
    rw c.from_residual.ensures (end_unless_gate _ short (sym c.in_err-rest.ensures))

pub returns-in_err-length : goal.returns-in_err-length
returns-in_err-length c =
    let short : length c.args.file.now < 2 ^ 64 = omega arith in
    rw c.from_residual-in_err-length.ensures (end_unless_number _ _ short (sym c.in_ok-rest.ensures) (sym c.in_err-length.ensures.reads))

pub returns-in_err-rest-2 : goal.returns-in_err-rest-2
returns-in_err-rest-2 c =
    let short : length c.args.file.now < 2 ^ 64 = omega arith in
    rw c.from_residual-in_err-rest-2.ensures
    (end_unless_line _ _ _ _ short (sym c.in_ok-rest.ensures) (sym c.in_ok-length.ensures.reads) (sym c.in_err-rest-2.ensures))

pub returns : goal.returns
returns c =
    let short : length c.args.file.now < 2 ^ 64 = omega arith in
    split_reads _ _ _ _ _ short (sym c.in_ok-rest.ensures) (sym c.in_ok-length.ensures.reads) (sym c.in_ok-rest-2.ensures)
    c.split_at_checked.result c.split_at_checked.ensures.cases

use Rattle.std.proofs.Common.{arith}
use Rattle.dm_tape.proofs.WholeRounds.{left_behind, begins_with, reads_text, fault_found, read_is, fault_is}
use Rattle.dm_tape.proofs.Placed.{fault_placed}
use Rattle.dm_tape.proofs.rounds.read_round.Goals as goal

pub overflow_sub-result : goal.overflow_sub-result
overflow_sub-result c =
    omega (arith, left_behind c.args.feeds c.args.bytes.now _ _ _ _ c.new-lines.ensures c.left-left.ensures c.in-Ok.ensures)

pub returns-clause-reads : goal.returns-clause-reads
returns-clause-reads c = reads_text c.args.feeds c.args.bytes.now _ _ _ _ c.new-lines.ensures c.left-left.ensures c.in-Ok.ensures

pub returns-clause-ok : goal.returns-clause-ok
returns-clause-ok c = begins_with c.args.feeds c.args.bytes.now _ _ _ _ c.new-lines.ensures c.left-left.ensures c.in-Ok.ensures

pub returns-clause-exactly : goal.returns-clause-exactly
returns-clause-exactly c = λ round used begins.
    read_is c.args.feeds c.args.bytes.now round used (omega arith) c.requires begins _ _ (returns-clause-reads c)

pub returns-in-Err-clause-fault : goal.returns-in-Err-clause-fault
returns-in-Err-clause-fault c =
    rw c.placed.ensures.told (fault_found c.args.feeds c.args.bytes.now _ c.in-Err.fault c.new-lines.ensures c.in-Err.ensures)

pub returns-in-Err-clause-byte : goal.returns-in-Err-clause-byte
returns-in-Err-clause-byte c =
    fault_placed c.args.feeds c.args.bytes.now c.in-Err.fault c.placed.result
    (fault_found c.args.feeds c.args.bytes.now _ c.in-Err.fault c.new-lines.ensures c.in-Err.ensures) c.placed.ensures.told c.placed.ensures.at
    c.placed.ensures.none

pub returns-in-Err-clause-exactly : goal.returns-in-Err-clause-exactly
returns-in-Err-clause-exactly c = λ round used begins.
    rw c.placed.ensures.told (fault_is c.args.feeds c.args.bytes.now round used (omega arith) c.requires begins c.in-Err.fault
    (fault_found c.args.feeds c.args.bytes.now _ c.in-Err.fault c.new-lines.ensures c.in-Err.ensures))

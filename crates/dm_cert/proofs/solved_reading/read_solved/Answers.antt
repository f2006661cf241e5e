use Rattle.std.proofs.Common.{arith}
use Rattle.dm_cert.proofs.SolvedTold.{solved_left_behind, begins_with_solved, reads_solved_text}
use Rattle.dm_cert.proofs.SpelledSolved.{begun_is_read, fault_is_read}
use Rattle.dm_cert.proofs.solved_reading.read_solved.Goals as goal

pub overflow_sub-result : goal.overflow_sub-result
overflow_sub-result c = omega (arith, solved_left_behind c.args.entry _ c.args.bytes.now _ _ _ c.new-lines.ensures c.left-left.ensures c.in-Ok.ensures)

pub returns-clause-reads : goal.returns-clause-reads
returns-clause-reads c = reads_solved_text c.args.entry _ c.args.bytes.now _ _ _ c.new-lines.ensures c.left-left.ensures c.in-Ok.ensures

pub returns-clause-ok : goal.returns-clause-ok
returns-clause-ok c = begins_with_solved c.args.entry _ c.args.bytes.now _ _ _ c.new-lines.ensures c.left-left.ensures c.in-Ok.ensures

pub returns-clause-exactly : goal.returns-clause-exactly
returns-clause-exactly c = λ plan used begins. begun_is_read c.args.entry c.args.bytes.now _ plan used c.requires (returns-clause-reads c) begins

pub returns-in-Err-clause-exactly : goal.returns-in-Err-clause-exactly
returns-in-Err-clause-exactly c = λ plan used begins.
    begun_is_read c.args.entry c.args.bytes.now _ plan used c.requires
    (fault_is_read c.args.entry c.args.bytes.now _ c.in-Err.fault c.new-lines.ensures c.in-Err.ensures) begins

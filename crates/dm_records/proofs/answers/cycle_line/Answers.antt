use Rattle.std.proofs.Common.{arith}
use Rattle.dm_records.proofs.AnswersRead.{cycle_no_words, cycle_no_ids, cycle_empty, cycle_is}
use Rattle.dm_records.proofs.answers.cycle_line.Goals as goal

pub returns-in_default : goal.returns-in_default
returns-in_default c = cycle_no_words c.args.line.now c.in_default.ensures

pub returns-in_default-found : goal.returns-in_default-found
returns-in_default-found c = cycle_no_ids c.args.line.now _ c.in-Some.ensures (rw c.in_default-found.is at c.in-Ok.ensures)

pub returns-then-len-eq0 : goal.returns-then-len-eq0
returns-then-len-eq0 c = cycle_empty c.args.line.now _ _ c.in-Some.ensures (rw c.in-Some-found.is at c.in-Ok.ensures) (omega arith)

pub returns : goal.returns
returns c = rw c.from_vec.ensures (cycle_is c.args.line.now _ _ c.in-Some.ensures (rw c.in-Some-found.is at c.in-Ok.ensures) (λ none. absurd (omega arith)))

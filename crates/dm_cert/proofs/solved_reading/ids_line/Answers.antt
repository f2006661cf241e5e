use Rattle.std.proofs.Common.{inr, arith}
use Rattle.dm_cert.specs.SolvedRead.{IsIdsLine}
use Rattle.dm_cert.proofs.Lined.{told_cut, told_none, told_spelled}
use Rattle.dm_cert.proofs.IdsRead.{no_word, no_ids_behind, other_count, ids_line_told}
use Rattle.dm_cert.proofs.SolvedTold.{no_ids_told, ids_told, ids_failed}
use Rattle.dm_cert.proofs.solved_reading.ids_line.Goals as goal

pub returns-then-count-eq0 : goal.returns-then-count-eq0
returns-then-count-eq0 c = rw c.new.ensures.items (no_ids_told c.args.word.now c.args.count c.args.lines.now (omega arith))

pub returns-in_default : goal.returns-in_default
returns-in_default c =
    ids_failed c.args.word.now c.args.count _ _ (omega arith)
    (inr (told_cut (IsIdsLine c.args.word.now c.args.count) _ _ c.line-number.ensures c.in_default.ensures.0))

pub returns-in_default-behind : goal.returns-in_default-behind
returns-in_default-behind c =
    ids_failed c.args.word.now c.args.count _ _ (omega arith)
    (inr (told_none (IsIdsLine c.args.word.now c.args.count) _ _ _ _ c.line-number.ensures c.in-Some.ensures
    (no_word c.args.word.now _ c.args.count (omega arith) c.in_default-behind.ensures)))

pub returns-in_default-found : goal.returns-in_default-found
returns-in_default-found c =
    ids_failed c.args.word.now c.args.count _ _ (omega arith)
    (inr (told_none (IsIdsLine c.args.word.now c.args.count) _ _ _ _ c.line-number.ensures c.in-Some.ensures
    (no_ids_behind c.args.word.now _ _ c.args.count (omega arith) c.in-Some-behind.ensures (rw c.in_default-found.is at c.in-Ok.ensures))))

pub returns-then-len-count : goal.returns-then-len-count
returns-then-len-count c =
    ids_failed c.args.word.now c.args.count _ _ (omega arith)
    (inr (told_none (IsIdsLine c.args.word.now c.args.count) _ _ _ _ c.line-number.ensures c.in-Some.ensures
    (other_count c.args.word.now _ _ _ c.args.count (omega arith) c.in-Some-behind.ensures (rw c.in-Some-found.is at c.in-Ok.ensures) (λ same. omega (arith, same)))))

pub returns : goal.returns
returns c =
    ids_told c.args.word.now c.args.count _ _ _ (omega arith)
    (told_spelled (IsIdsLine c.args.word.now c.args.count) _ _ _ _ c.in-Some.ensures
    (ids_line_told c.args.word.now _ _ _ c.args.count (omega arith) c.in-Some-behind.ensures (rw c.in-Some-found.is at c.in-Ok.ensures) (omega arith)))

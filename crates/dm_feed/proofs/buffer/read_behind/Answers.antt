use Rattle.std.proofs.Common.{◌≡◌, ◌≤◌, ◌∙◌, sym, subst, length, ℕ, IfOk, arith}
use Rattle.dm_feed.proofs.Buffers.{part_length, piece_read}
use Rattle.dm_feed.proofs.buffer.read_behind.Goals as goal

pub returns-clause-ok : goal.returns-clause-ok
returns-clause-ok g c =
    let size : length c.read.new.buf ≡ c.args.most = c.read.auto.buf ∙ part_length c.args.held c.args.most c.args.bytes.now c.requires.room in
    let short = subst (λ (m : ℕ). IfOk c.read.result (λ n. n ≤ m)) (sym c.read.auto.buf) c.read.ensures.count in
    piece_read _ _ c.read.result c.args.held _ c.args.bytes.now c.read.new.buf c.read.ensures.bytes short (omega arith) (omega (arith, size))

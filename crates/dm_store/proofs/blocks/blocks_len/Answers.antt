use Rattle.std.proofs.Common.{◌<◌, ◌^◌, [], ◌∷◌, ◌++◌, length, arith}
use Rattle.dm_store.proofs.Standing.{one_more, passed}
use Rattle.dm_store.proofs.blocks.blocks_len.Goals as goal

pub loop-more-preserved : goal.loop-more-preserved
loop-more-preserved c =
    (c.loop-more.invariant.0 ++ c.in-Some.field-0-0.now ∷ [], one_more _ _ _ _ _ c.loop-more.invariant.1 c.in-Some.ensures)

pub returns-clause-length : goal.returns-clause-length
returns-clause-length c = λ contents stands.
    let short : length c.args.file.now < 2 ^ 64 = omega arith in
    passed c.loop-more.invariant.0 contents _ _ short c.loop-more.invariant.1 c.in_default.ensures stands
